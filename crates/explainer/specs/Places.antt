-- Where that stands which is looked at.
use Rattle.std.specs.Prelude.{ℕ, List, drop}
use Rattle.expr_tokens.specs.declared.token.Token.{Token}
use Rattle.expr_parser.specs.Grammar.{Derives}
use Rattle.expr_places.specs.Places.{AreBetween}
use Rattle.explainer.specs.Looks.{Look}

-- the part is spelled by these tokens from its place on, by as many of them as are said
pub record IsSpelledThere (tokens : List Token) (l : Look) : Type 0 where
  pub level : ℕ
  pub depth : ℕ
  pub behind : List Token
  pub spelled : Derives level depth (drop l.at tokens) behind l.part
  pub many : AreBetween (drop l.at tokens) behind l.tokens
