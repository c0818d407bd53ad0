-- Which expression a text spells, and why one spells none.
use Rattle.std.specs.Prelude.{◌≡◌, ℕ, List, ◌⊎◌}
use Rattle.expr_tokens.specs.declared.fault.ExprFault.{ExprFault}
use Rattle.expr_tokens.specs.declared.fault.ExprFault.TheVariants.{BadExpression, NotInProfile, NoMemory}
use Rattle.expr_tokens.specs.declared.fault.Excluded.TheVariants.{Slash, Number, Bracket}
use Rattle.expr_tokens.specs.declared.token.Token.{Token}
use Rattle.expr_tokens.specs.Spelling.{SpellsTokens, PlaceAfter}
use Rattle.expr_tokens.specs.Faults.{IsEarliest}
use Rattle.expr_parser.specs.Tree.{SyntaxTree}
use Rattle.expr_parser.specs.Grammar.{Spells}
use Rattle.expr_parser.specs.Stopping.{StopsAt, Indexed}

-- The text spells the expression: by its tokens. (Firebase Security Rules reference, expressions.)
pub record SpellsExpression (text : List ℕ) (x : SyntaxTree) : Type 0 where
  pub tokens : List Token
  pub scanned : SpellsTokens text tokens
  pub parsed : Spells tokens x

-- What is answered where the tokens stop to be an expression behind those before: the byte where the next one begins, or the end of the text; or that a bracket behind a complete postfix is left out. (This project's profile.)
abbrev pub NamesPlace : List ℕ → List Token → List Token → List Token → ExprFault → Type 0
NamesPlace text tokens before left (BadExpression byte) = PlaceAfter text before byte × (Indexed tokens left → ⊥)
NamesPlace text tokens before left (NotInProfile Bracket) = Indexed tokens left
NamesPlace text tokens before left (NotInProfile Slash) = ⊥
NamesPlace text tokens before left (NotInProfile Number) = ⊥
NamesPlace text tokens before left NoMemory = ⊥

-- The text spells tokens, and these stop to be an expression.
pub record IsOfGrammar (text : List ℕ) (fault : ExprFault) : Type 0 where
  pub tokens : List Token
  pub scanned : SpellsTokens text tokens
  pub left : List Token
  pub stops : StopsAt tokens left
  pub place : NamesPlace text tokens stops.before left fault

-- Why the text is refused: for the earliest fault of its tokens, or else for where these stop to be an expression; or for want of memory. (This project's profile.)
abbrev pub RefusedText : List ℕ → ExprFault → Type 0
RefusedText text fault = (fault ≡ NoMemory) ⊎ IsEarliest text fault ⊎ IsOfGrammar text fault
