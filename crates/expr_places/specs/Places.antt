-- Where the parts of an expression are written, counted in tokens.
use Rattle.std.specs.Prelude.{◌≡◌, ℕ, ◌+◌, List, [], ◌∷◌, ◌++◌, length, drop}
use Rattle.expr_tokens.specs.declared.token.Token.{Token}
use Rattle.expr_parser.specs.Tree.{SyntaxTree, Trees, Argument, Arguments, Group, Member, Call, Not, Negate, Operation, Choice, One, Listed, no_argument, argument, none, more}
use Rattle.expr_parser.specs.Grammar.{Derives}
use Rattle.expr_parser.specs.View.{view}
use Rattle.expr_places.specs.declared.places.Placed as code

abbrev mutual
  -- how many tokens spell an expression. (Firebase Security Rules reference, expressions.)
  pub width : SyntaxTree → ℕ
  width (Group x) = 1 + (width x + 1)
  width (Member x f) = width x + 2
  width (Call x f xs) = width x + (2 + given_width xs)
  width (Not x) = 1 + width x
  width (Negate x) = 1 + width x
  width (Operation op x y) = width x + (1 + width y)
  width (Choice c x y) = width c + (1 + (width x + (1 + width y)))
  width _ = 1

  -- what a call is given, with its parentheses
  pub given_width : Arguments → ℕ
  given_width no_argument = 2
  given_width (argument x xs) = 1 + (argument_width x + more_width xs)

  -- the arguments behind the first, each behind a comma, and the parenthesis behind them
  pub more_width : Arguments → ℕ
  more_width no_argument = 1
  more_width (argument x xs) = 1 + (argument_width x + more_width xs)

  pub argument_width : Argument → ℕ
  argument_width (One x) = width x
  argument_width (Listed xs) = items_width xs

  -- the elements of a list, each behind a bracket or a comma, and the bracket behind them
  pub items_width : Trees → ℕ
  items_width none = 1
  items_width (more x xs) = 1 + (width x + items_width xs)

-- an expression, and how many tokens are before it
abbrev pub Placed : Type 0
Placed = ℕ × SyntaxTree

-- the elements of a list, of which the first is behind so many tokens
abbrev pub placed_items : ℕ → Trees → List Placed
placed_items n none = []
placed_items n (more x xs) = (n, x) ∷ placed_items (n + width x + 1) xs

-- what an argument that is behind so many tokens is made of
abbrev pub placed_argument : ℕ → Argument → List Placed
placed_argument n (One x) = (n, x) ∷ []
placed_argument n (Listed xs) = placed_items (n + 1) xs

-- what a call is given, where the first argument is behind so many tokens
abbrev pub placed_arguments : ℕ → Arguments → List Placed
placed_arguments n no_argument = []
placed_arguments n (argument x xs) = placed_argument n x ++ placed_arguments (n + argument_width x + 1) xs

-- The parts of an expression, from left to right, each with how many tokens of the expression are before it. (Firebase Security Rules reference, expressions.)
abbrev pub placed_parts : SyntaxTree → List Placed
placed_parts (Group x) = (1, x) ∷ []
placed_parts (Member x f) = (0, x) ∷ []
placed_parts (Call x f xs) = (0, x) ∷ placed_arguments (width x + 3) xs
placed_parts (Not x) = (1, x) ∷ []
placed_parts (Negate x) = (1, x) ∷ []
placed_parts (Operation op x y) = (0, x) ∷ (width x + 1, y) ∷ []
placed_parts (Choice c x y) = (0, c) ∷ (width c + 1, x) ∷ (width c + (1 + (width x + 1)), y) ∷ []
placed_parts _ = []

-- between the tokens `from` and what is left of them, `to`, are so many
pub record AreBetween (from to : List Token) (count : ℕ) : Type 0 where
  pub front : List Token
  pub parts : from ≡ front ++ to
  pub many : length front ≡ count

-- the expression is spelled by the tokens from its place on
pub record IsSpelledAt (tokens : List Token) (part : Placed) : Type 0 where
  pub level : ℕ
  pub depth : ℕ
  pub behind : List Token
  pub spelled : Derives level depth (drop part.0 tokens) behind part.1

-- ---- that of the code

-- what a placed part of the code stands for
abbrev pub placed_of : code.Placed → Placed
placed_of p = (p.before, view p.part.now)
