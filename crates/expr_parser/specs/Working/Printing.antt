-- The tokens of an expression, as a function of its tree: the grammar's rules once more, for the proofs.
use Rattle.std.specs.Prelude.{◌≡◌, ℕ, suc, ◌<◌, ◌≤◌, List, [], ◌∷◌}
use Rattle.expr_parser.specs.declared.limits.TheConstants.{MAX_LEVELS}
use Rattle.expr_tokens.specs.declared.operator.Operator.TheVariants.{Subtract}
use Rattle.expr_tokens.specs.declared.token.Token.{Token}
use Rattle.expr_tokens.specs.declared.token.Token.TheVariants as t
use Rattle.expr_parser.specs.Tree.{SyntaxTree, Trees, Argument, Arguments, Number, Text, True, False, Null, Variable, Capture, Group, Member, Call, Not, Negate, Operation, Choice, One, Listed, no_argument, argument, none, more}
use Rattle.expr_parser.specs.Grammar.{level}

-- The tokens of an expression, and then others.
abbrev mutual
  pub spelled : SyntaxTree → List Token → List Token
  spelled (Number k) rest = t.Number k ∷ rest
  spelled (Text s) rest = t.Text s ∷ rest
  spelled True rest = t.True ∷ rest
  spelled False rest = t.False ∷ rest
  spelled Null rest = t.Null ∷ rest
  spelled (Variable f) rest = t.Name f ∷ rest
  spelled (Capture f) rest = t.Capture f ∷ rest
  spelled (Group x) rest = t.OpenParenthesis ∷ spelled x (t.CloseParenthesis ∷ rest)
  spelled (Member x f) rest = spelled x (t.Dot ∷ t.Name f ∷ rest)
  spelled (Call x f xs) rest = spelled x (t.Dot ∷ t.Name f ∷ t.OpenParenthesis ∷ spelled_arguments xs rest)
  spelled (Not x) rest = t.Not ∷ spelled x rest
  spelled (Negate x) rest = t.Operator Subtract ∷ spelled x rest
  spelled (Operation op x y) rest = spelled x (t.Operator op ∷ spelled y rest)
  spelled (Choice c x y) rest = spelled c (t.Question ∷ spelled x (t.Colon ∷ spelled y rest))

  pub spelled_argument : Argument → List Token → List Token
  spelled_argument (One x) rest = spelled x rest
  spelled_argument (Listed xs) rest = t.OpenBracket ∷ spelled_items xs rest

  -- arguments up to their parenthesis
  pub spelled_arguments : Arguments → List Token → List Token
  spelled_arguments no_argument rest = t.CloseParenthesis ∷ rest
  spelled_arguments (argument x xs) rest = spelled_argument x (spelled_more xs rest)

  pub spelled_more : Arguments → List Token → List Token
  spelled_more no_argument rest = t.CloseParenthesis ∷ rest
  spelled_more (argument x xs) rest = t.Comma ∷ spelled_argument x (spelled_more xs rest)

  -- elements up to their bracket
  pub spelled_items : Trees → List Token → List Token
  spelled_items none rest = t.CloseBracket ∷ rest
  spelled_items (more x xs) rest = spelled x (spelled_more_items xs rest)

  pub spelled_more_items : Trees → List Token → List Token
  spelled_more_items none rest = t.CloseBracket ∷ rest
  spelled_more_items (more x xs) rest = t.Comma ∷ spelled x (spelled_more_items xs rest)

-- The list has an element.
abbrev pub HasOne : Trees → Type 0
HasOne none = ⊥
HasOne (more x xs) = Unit {0}

-- The expression is one of the level n, with d levels open round it.
abbrev mutual
  pub Fits : SyntaxTree → ℕ → ℕ → Type 0
  Fits (Number k) n d = n ≤ 8
  Fits (Text s) n d = n ≤ 8
  Fits True n d = n ≤ 8
  Fits False n d = n ≤ 8
  Fits Null n d = n ≤ 8
  Fits (Variable f) n d = n ≤ 8
  Fits (Capture f) n d = n ≤ 8
  Fits (Group x) n d = (n ≤ 8) × (d < MAX_LEVELS) × Fits x 0 (suc d)
  Fits (Member x f) n d = (n ≤ 8) × Fits x 8 d
  Fits (Call x f xs) n d = (n ≤ 8) × (d < MAX_LEVELS) × Fits x 8 d × FitArguments xs (suc d)
  Fits (Not x) n d = (n ≤ 7) × (d < MAX_LEVELS) × Fits x 7 (suc d)
  Fits (Negate x) n d = (n ≤ 7) × (d < MAX_LEVELS) × Fits x 7 (suc d)
  Fits (Operation op x y) n d = (n ≤ level op) × Fits x (level op) d × Fits y (suc (level op)) d
  Fits (Choice c x y) n d = (n ≤ 0) × (d < MAX_LEVELS) × Fits c 1 d × Fits x 0 (suc d) × Fits y 0 (suc d)

  pub FitsArgument : Argument → ℕ → Type 0
  FitsArgument (One x) d = Fits x 0 d
  FitsArgument (Listed xs) d = (d < MAX_LEVELS) × HasOne xs × FitItems xs (suc d)

  pub FitArguments : Arguments → ℕ → Type 0
  FitArguments no_argument d = Unit {0}
  FitArguments (argument x xs) d = FitsArgument x d × FitArguments xs d

  pub FitItems : Trees → ℕ → Type 0
  FitItems none d = Unit {0}
  FitItems (more x xs) d = Fits x 0 d × FitItems xs d

-- The tokens are those of the expression, and it is one that may stand alone.
pub record Printed (tokens : List Token) (x : SyntaxTree) : Type 0 where
  pub fits : Fits x 0 0
  pub tokens_are : tokens ≡ spelled x []
