-- Where tokens stop to be an expression.
use Rattle.std.specs.Prelude.{◌≡◌, ℕ, List, [], ◌∷◌, ◌++◌, length}
use Rattle.expr_tokens.specs.declared.token.Token.{Token}
use Rattle.expr_tokens.specs.declared.token.Token.TheVariants.{OpenBracket}
use Rattle.expr_parser.specs.declared.parser.ParseFault.{ParseFault}
use Rattle.expr_parser.specs.declared.parser.ParseFault.TheVariants.{NoMemory, Unexpected, Bracket}
use Rattle.expr_parser.specs.Tree.{SyntaxTree}
use Rattle.expr_parser.specs.Grammar.{Derives, Spells}

-- No spelled expression goes on from the tokens `before` with the first of those that are left; where none is left, they spell none themselves.
abbrev pub NoneGoesOn : List Token → List Token → Type 0
NoneGoesOn before [] = (x : SyntaxTree) → Spells before x → ⊥
NoneGoesOn before (token ∷ left) = (others : List Token) (x : SyntaxTree) → Spells (before ++ token ∷ others) x → ⊥

-- The first of the tokens that are left is the first that no spelled expression has after the tokens before it. (This project's profile.)
pub record StopsAt (tokens left : List Token) : Type 0 where
  pub before : List Token
  pub parts : tokens ≡ before ++ left
  -- a spelled expression that begins with the tokens before
  pub others : List Token
  pub tree : SyntaxTree
  pub goes_on : Spells (before ++ others) tree
  -- and none that goes on as the tokens do
  pub never : NoneGoesOn before left

-- Behind a complete postfix, at however many levels, stands a bracket. (Firebase Security Rules reference, expressions; that it is left out is this project's profile.)
pub record Indexed (tokens left : List Token) : Type 0 where
  pub front : List Token
  pub levels : ℕ
  pub operand : List Token
  pub tree : SyntaxTree
  pub more : List Token
  pub postfix : Derives 8 levels operand [] tree
  pub bracket : left ≡ OpenBracket ∷ more
  pub parts : tokens ≡ front ++ (operand ++ left)

-- The place where tokens are refused, by how many tokens are left.
abbrev pub Refused : List Token → ParseFault → Type 0
Refused tokens NoMemory = Unit {0}
Refused tokens (Unexpected n) = (left : List Token) × (length left ≡ n) × StopsAt tokens left × (Indexed tokens left → ⊥)
Refused tokens (Bracket n) = (left : List Token) × (length left ≡ n) × StopsAt tokens left × Indexed tokens left
