-- The grammar, with one rule for each alternative.
use Rattle.std.specs.Prelude.{◌≡◌, ℕ, suc, ◌<◌, List, [], ◌∷◌}
use Rattle.expr_parser.specs.declared.limits.TheConstants.{MAX_LEVELS}
use Rattle.expr_tokens.specs.declared.operator.Operator.{Operator}
use Rattle.expr_tokens.specs.declared.operator.Operator.TheVariants.{Or, And, Equal, NotEqual, Less, LessOrEqual, Greater, GreaterOrEqual, Add, Subtract, Multiply, Remainder}
use Rattle.expr_tokens.specs.declared.token.Token.{Token}
use Rattle.expr_tokens.specs.declared.token.Token.TheVariants as t
use Rattle.expr_parser.specs.Tree.{SyntaxTree, Trees, Argument, Arguments, Number, Text, True, False, Null, Variable, Capture, Group, Member, Call, Not, Negate, Operation, Choice, One, Listed, no_argument, argument, none, more}

-- The levels of the grammar: 0 expr, 1 or, 2 and, 3 equal, 4 order, 5 sum, 6 product, 7 unary, 8 postfix. Here is that of each operator. (Firebase Security Rules reference, expressions.)
abbrev pub level : Operator → ℕ
level Or = 1
level And = 2
level Equal = 3
level NotEqual = 3
level Less = 4
level LessOrEqual = 4
level Greater = 4
level GreaterOrEqual = 4
level Add = 5
level Subtract = 5
level Multiply = 6
level Remainder = 6

mutual
  -- Derives n d from to x: between the tokens `from` and what is left of them, `to`, stands x, which is of the level n, where d levels are open round it. At most MAX_LEVELS, 64, are open at once; `d < MAX_LEVELS` stands where one more opens. (Firebase Security Rules reference, expressions; the 64 levels are this project's profile.)
  pub data Derives : ℕ → ℕ → List Token → List Token → SyntaxTree → Type 0 where
    -- expr := or '?' expr ':' expr
    choice : {d : ℕ} {from to xs ys : List Token} {c x y : SyntaxTree} → d < MAX_LEVELS → Derives 1 d from (t.Question ∷ xs) c → Derives 0 (suc d) xs (t.Colon ∷ ys) x → Derives 0 (suc d) ys to y → Derives 0 d from to (Choice c x y)
    -- or := or '||' and, and := and '&&' equal, equal := equal '==' order, ..: to the left of an operator stands its own level, to the right the next
    operation : {n d : ℕ} {from to ys : List Token} {x y : SyntaxTree} (op : Operator) → level op ≡ n → Derives n d from (t.Operator op ∷ ys) x → Derives (suc n) d ys to y → Derives n d from to (Operation op x y)
    -- unary := '!' unary
    not : {d : ℕ} {from to : List Token} {x : SyntaxTree} → d < MAX_LEVELS → Derives 7 (suc d) from to x → Derives 7 d (t.Not ∷ from) to (Not x)
    -- unary := '-' unary
    negate : {d : ℕ} {from to : List Token} {x : SyntaxTree} → d < MAX_LEVELS → Derives 7 (suc d) from to x → Derives 7 d (t.Operator Subtract ∷ from) to (Negate x)
    -- postfix := postfix '.' name
    member : {d : ℕ} {from to : List Token} {x : SyntaxTree} {f : List ℕ} → Derives 8 d from (t.Dot ∷ t.Name f ∷ to) x → Derives 8 d from to (Member x f)
    -- postfix := postfix '.' name '(' [ arg { ',' arg } ] ')'
    call : {d : ℕ} {from to ys : List Token} {x : SyntaxTree} {f : List ℕ} {xs : Arguments} → d < MAX_LEVELS → Derives 8 d from (t.Dot ∷ t.Name f ∷ t.OpenParenthesis ∷ ys) x → DerivesArguments (suc d) ys to xs → Derives 8 d from to (Call x f xs)
    -- primary := number | text | 'true' | 'false' | 'null' | name | capture
    number : {d k : ℕ} {to : List Token} → Derives 8 d (t.Number k ∷ to) to (Number k)
    text : {d : ℕ} {s : List ℕ} {to : List Token} → Derives 8 d (t.Text s ∷ to) to (Text s)
    true : {d : ℕ} {to : List Token} → Derives 8 d (t.True ∷ to) to True
    false : {d : ℕ} {to : List Token} → Derives 8 d (t.False ∷ to) to False
    null : {d : ℕ} {to : List Token} → Derives 8 d (t.Null ∷ to) to Null
    variable : {d : ℕ} {f : List ℕ} {to : List Token} → Derives 8 d (t.Name f ∷ to) to (Variable f)
    capture : {d : ℕ} {f : List ℕ} {to : List Token} → Derives 8 d (t.Capture f ∷ to) to (Capture f)
    -- primary := '(' expr ')'
    group : {d : ℕ} {from to : List Token} {x : SyntaxTree} → d < MAX_LEVELS → Derives 0 (suc d) from (t.CloseParenthesis ∷ to) x → Derives 8 d (t.OpenParenthesis ∷ from) to (Group x)
    -- expr := or, or := and, .., unary := postfix
    next_level : {n d : ℕ} {from to : List Token} {x : SyntaxTree} → n < 8 → Derives (suc n) d from to x → Derives n d from to x

  -- arg := expr | '[' expr { ',' expr } ']'
  pub data DerivesArgument : ℕ → List Token → List Token → Argument → Type 0 where
    one : {d : ℕ} {from to : List Token} {x : SyntaxTree} → Derives 0 d from to x → DerivesArgument d from to (One x)
    listed : {d : ℕ} {from ys to : List Token} {x : SyntaxTree} {xs : Trees} → d < MAX_LEVELS → Derives 0 (suc d) from ys x → DerivesItems (suc d) ys to xs → DerivesArgument d (t.OpenBracket ∷ from) to (Listed (more x xs))

  -- the rest of a list: { ',' expr } ']'
  pub data DerivesItems : ℕ → List Token → List Token → Trees → Type 0 where
    last_item : {d : ℕ} {to : List Token} → DerivesItems d (t.CloseBracket ∷ to) to none
    next_item : {d : ℕ} {from ys to : List Token} {x : SyntaxTree} {xs : Trees} → Derives 0 d from ys x → DerivesItems d ys to xs → DerivesItems d (t.Comma ∷ from) to (more x xs)

  -- a call from behind its parenthesis: [ arg { ',' arg } ] ')'
  pub data DerivesArguments : ℕ → List Token → List Token → Arguments → Type 0 where
    no_arguments : {d : ℕ} {to : List Token} → DerivesArguments d (t.CloseParenthesis ∷ to) to no_argument
    arguments : {d : ℕ} {from ys to : List Token} {x : Argument} {xs : Arguments} → DerivesArgument d from ys x → DerivesMore d ys to xs → DerivesArguments d from to (argument x xs)

  -- the rest of a call: { ',' arg } ')'
  pub data DerivesMore : ℕ → List Token → List Token → Arguments → Type 0 where
    last_argument : {d : ℕ} {to : List Token} → DerivesMore d (t.CloseParenthesis ∷ to) to no_argument
    next_argument : {d : ℕ} {from ys to : List Token} {x : Argument} {xs : Arguments} → DerivesArgument d from ys x → DerivesMore d ys to xs → DerivesMore d (t.Comma ∷ from) to (argument x xs)

-- The tokens, all of them, spell the expression. (Firebase Security Rules reference, expressions.)
abbrev pub Spells : List Token → SyntaxTree → Type 0
Spells tokens x = Derives 0 0 tokens [] x
