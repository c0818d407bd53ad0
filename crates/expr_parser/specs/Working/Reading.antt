-- Reading an expression from left to right, as the parser does: what it gives, or where it stops. For the proofs.
use Rattle.std.specs.Prelude.{ℕ, zero, suc, List, ◌∷◌, length, Result, Ok, Err, nat_lt, nat_le, if◌then◌else◌}
use Rattle.expr_parser.specs.declared.limits.TheConstants.{MAX_LEVELS}
use Rattle.expr_tokens.specs.declared.operator.Operator.TheVariants as b
use Rattle.expr_tokens.specs.declared.token.Token.{Token}
use Rattle.expr_tokens.specs.declared.token.Token.TheVariants as t
use Rattle.expr_parser.specs.declared.parser.ParseFault.{ParseFault}
use Rattle.expr_parser.specs.declared.parser.ParseFault.TheVariants.{Unexpected, Bracket, NoMemory}
use Rattle.expr_parser.specs.Tree.{SyntaxTree, Trees, Argument, Arguments, Number, Text, True, False, Null, Variable, Capture, Group, Member, Call, Not, Negate, Operation, Choice, One, Listed, no_argument, argument, none, more}
use Rattle.expr_parser.specs.Grammar.{level}

-- what is read next
pub data Mode : Type 0 where
  Whole : Mode
  Climb : ℕ → Mode
  On : ℕ → SyntaxTree → Mode
  Unary : Mode
  After : SyntaxTree → Mode
  Args : Arguments → Mode
  Items : Trees → Mode

-- what it is read as
abbrev pub Out : Mode → Type 0
Out Whole = SyntaxTree
Out (Climb n) = SyntaxTree
Out (On n x) = SyntaxTree
Out Unary = SyntaxTree
Out (After x) = SyntaxTree
Out (Args xs) = Arguments
Out (Items xs) = Trees

-- what was read and the tokens that are left, or where reading stops
abbrev pub Found : Type 0 → Type 0
Found A = Result (A × List Token) ParseFault

-- what reads on, with so many levels open, from these tokens
abbrev pub Reader : Type 0
Reader = (m : Mode) → ℕ → List Token → Found (Out m)

infixl 10 ◌>>=◌
abbrev pub ◌>>=◌ : {A B : Type 0} → Found A → (A × List Token → Found B) → Found B
(Ok x) >>= f = f x
(Err e) >>= f = Err e

-- nothing goes on with the first of these tokens
abbrev pub stop : {A : Type 0} → List Token → Found A
stop ts = Err (Unexpected (length ts))

-- one more level, which the first of these tokens opens
abbrev pub deeper : {A : Type 0} → ℕ → List Token → Found A → Found A
deeper d ts found = if nat_lt d MAX_LEVELS then found else stop ts

-- the elements of a list, with one more behind them
abbrev pub snoc_item : Trees → SyntaxTree → Trees
snoc_item none x = more x none
snoc_item (more y ys) x = more y (snoc_item ys x)

-- the arguments of a call, with one more behind them
abbrev pub snoc : Arguments → Argument → Arguments
snoc no_argument x = argument x no_argument
snoc (argument y ys) x = argument y (snoc ys x)

-- a parenthesis that holds this, if it is closed now
abbrev pub closed : SyntaxTree → List Token → Found SyntaxTree
closed x (t.CloseParenthesis ∷ ts) = Ok (Group x, ts)
closed x ts = stop ts

-- what stands in a parenthesis, and its end
abbrev pub group : Reader → ℕ → List Token → Found SyntaxTree
group r d ts = r Whole (suc d) ts >>= λ x. closed x.0 x.1

-- a literal, a variable, a capture, or a parenthesis
abbrev pub primary : Reader → ℕ → List Token → Found SyntaxTree
primary r d (t.Number n ∷ ts) = Ok (Number n, ts)
primary r d (t.Text s ∷ ts) = Ok (Text s, ts)
primary r d (t.True ∷ ts) = Ok (True, ts)
primary r d (t.False ∷ ts) = Ok (False, ts)
primary r d (t.Null ∷ ts) = Ok (Null, ts)
primary r d (t.Name f ∷ ts) = Ok (Variable f, ts)
primary r d (t.Capture f ∷ ts) = Ok (Capture f, ts)
primary r d (t.OpenParenthesis ∷ ts) = deeper d (t.OpenParenthesis ∷ ts) (group r d ts)
primary r d ts = stop ts

-- ---- a list

-- behind an element: the next one, or the end of the list
abbrev pub items_on : Reader → ℕ → Trees → List Token → Found Trees
items_on r d xs (t.Comma ∷ ts) = r (Items xs) d ts
items_on r d xs (t.CloseBracket ∷ ts) = Ok (xs, ts)
items_on r d xs ts = stop ts

-- ---- a call

-- behind an argument: the next one, or the end of the call
abbrev pub args_on : Reader → ℕ → Arguments → List Token → Found Arguments
args_on r d xs (t.Comma ∷ ts) = r (Args xs) d ts
args_on r d xs (t.CloseParenthesis ∷ ts) = Ok (xs, ts)
args_on r d xs ts = stop ts

-- the arguments of a call, whose parenthesis is open
abbrev pub call : Reader → ℕ → List Token → Found Arguments
call r d (t.CloseParenthesis ∷ ts) = Ok (no_argument, ts)
call r d ts = r (Args no_argument) d ts

-- behind a dot and a name: a call of that name, or a member
abbrev pub named : Reader → ℕ → SyntaxTree → List ℕ → List Token → Found SyntaxTree
named r d x f (t.OpenParenthesis ∷ ts) = deeper d (t.OpenParenthesis ∷ ts) (call r (suc d) ts >>= λ xs. Ok (Call x f xs.0, xs.1))
named r d x f ts = Ok (Member x f, ts)

-- behind a dot: a name, and what stands behind it
abbrev pub dotted : Reader → ℕ → SyntaxTree → List Token → Found SyntaxTree
dotted r d x (t.Name f ∷ ts) = named r d x f ts
dotted r d x ts = stop ts

-- behind an operand: any number of members and calls
abbrev pub after : Reader → ℕ → SyntaxTree → List Token → Found SyntaxTree
after r d x (t.Dot ∷ ts) = dotted r d x ts >>= λ y. r (After y.0) d y.1
after r d x (t.OpenBracket ∷ ts) = Err (Bracket (length (t.OpenBracket ∷ ts)))
after r d x ts = Ok (x, ts)

-- an operand, with the members and calls behind it
abbrev pub postfix : Reader → ℕ → List Token → Found SyntaxTree
postfix r d ts = primary r d ts >>= λ x. after r d x.0 x.1

-- ---- operators

-- an operand, with the signs before it
abbrev pub unary : Reader → ℕ → List Token → Found SyntaxTree
unary r d (t.Not ∷ ts) = deeper d (t.Not ∷ ts) (r Unary (suc d) ts >>= λ x. Ok (Not x.0, x.1))
unary r d (t.Operator b.Subtract ∷ ts) = deeper d (t.Operator b.Subtract ∷ ts) (r Unary (suc d) ts >>= λ x. Ok (Negate x.0, x.1))
unary r d ts = postfix r d ts

-- behind an operand: operators that bind at least this tightly, each with its right side
abbrev pub on : Reader → ℕ → ℕ → SyntaxTree → List Token → Found SyntaxTree
on r n d x (t.Operator op ∷ ts) = if nat_le n (level op) then (r (Climb (suc (level op))) d ts >>= λ y. r (On n (Operation op x y.0)) d y.1) else Ok (x, t.Operator op ∷ ts)
on r n d x ts = Ok (x, ts)

-- operands, joined by operators that bind at least this tightly
abbrev pub climb : Reader → ℕ → ℕ → List Token → Found SyntaxTree
climb r n d ts = unary r d ts >>= λ x. on r n d x.0 x.1

-- behind the first branch of a choice: a colon, and the second branch
abbrev pub otherwise : Reader → ℕ → SyntaxTree → SyntaxTree → List Token → Found SyntaxTree
otherwise r d c x (t.Colon ∷ ts) = r Whole (suc d) ts >>= λ y. Ok (Choice c x y.0, y.1)
otherwise r d c x ts = stop ts

-- the two branches of a choice
abbrev pub parts : Reader → ℕ → SyntaxTree → List Token → Found SyntaxTree
parts r d c ts = r Whole (suc d) ts >>= λ x. otherwise r d c x.0 x.1

-- behind a condition: the branches of a choice, or nothing
abbrev pub chosen : Reader → ℕ → SyntaxTree → List Token → Found SyntaxTree
chosen r d c (t.Question ∷ ts) = deeper d (t.Question ∷ ts) (parts r d c ts)
chosen r d c ts = Ok (c, ts)

-- an expression: operands and operators, or a choice on them
abbrev pub whole : Reader → ℕ → List Token → Found SyntaxTree
whole r d ts = climb r 1 d ts >>= λ c. chosen r d c.0 c.1

-- ---- elements and arguments

-- an element, and all those behind it
abbrev pub items : Reader → ℕ → Trees → List Token → Found Trees
items r d xs ts = whole r d ts >>= λ x. items_on r d (snoc_item xs x.0) x.1

-- an argument: a list in brackets, or an expression
abbrev pub arg : Reader → ℕ → List Token → Found Argument
arg r d (t.OpenBracket ∷ ts) = deeper d (t.OpenBracket ∷ ts) (r (Items none) (suc d) ts >>= λ xs. Ok (Listed xs.0, xs.1))
arg r d ts = whole r d ts >>= λ x. Ok (One x.0, x.1)

-- these arguments, and one more
abbrev pub arg_behind : Reader → ℕ → Arguments → List Token → Found Arguments
arg_behind r d xs ts = arg r d ts >>= λ x. Ok (snoc xs x.0, x.1)

-- these elements, and one more
abbrev pub item_behind : Reader → ℕ → Trees → List Token → Found Trees
item_behind r d xs ts = r Whole d ts >>= λ x. Ok (snoc_item xs x.0, x.1)

-- an argument, and all those behind it
abbrev pub args : Reader → ℕ → Arguments → List Token → Found Arguments
args r d xs ts = arg r d ts >>= λ x. args_on r d (snoc xs x.0) x.1

-- ---- turns

-- one turn of reading: what each kind of reading does next
abbrev pub step : Reader → Reader
step r Whole d ts = whole r d ts
step r (Climb n) d ts = climb r n d ts
step r (On n x) d ts = on r n d x ts
step r Unary d ts = unary r d ts
step r (After x) d ts = after r d x ts
step r (Args xs) d ts = args r d xs ts
step r (Items xs) d ts = items r d xs ts

-- at most k turns
abbrev pub run : ℕ → Reader
run zero m d ts = Err NoMemory
run (suc k) m d ts = step (run k) m d ts

-- each turn takes a token
unfoldable pub read : Reader
read m d ts = run (suc (length ts)) m d ts
