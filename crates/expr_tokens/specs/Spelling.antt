-- Which tokens a text spells.
use Rattle.std.specs.Prelude.{◌≡◌, ℕ, ◌+◌, ◌<◌, ◌≤◌, take, slice_index, Bool, true, false, List, [], ◌∷◌, ◌++◌, length, Some, None, ⊤}
use Rattle.expr_tokens.specs.declared.token.Token.{Token}
use Rattle.expr_tokens.specs.declared.token.Token.TheVariants as t
use Rattle.expr_tokens.specs.Words.{past_blanks, ends_number}
use Rattle.expr_tokens.specs.Token.{token_of}

-- no longer front of the text is a token (this project's profile)
abbrev pub IsLongest : Bool → List ℕ → List ℕ → Type 0
IsLongest after_dot word rest = (c : ℕ) (more others : List ℕ) → rest ≡ c ∷ (more ++ others) → token_of after_dot (word ++ c ∷ more) ≡ None

-- a number's digits end where it ends, and no point or exponent is behind them (this project's profile)
abbrev pub IsWhole : Token → List ℕ → Type 0
IsWhole (t.Number n) rest = ends_number rest ≡ true
IsWhole _ rest = ⊤

-- the token stands at the front of the text, the longest that fits, and then the rest (this project's profile)
pub record ComesFirst (after_dot : Bool) (text : List ℕ) (u : Token) (rest : List ℕ) : Type 0 where
  pub word : List ℕ
  pub parts : text ≡ word ++ rest
  pub spells : token_of after_dot word ≡ Some u
  pub longest : IsLongest after_dot word rest
  pub whole : IsWhole u rest

-- behind a dot no name is a literal (this project's profile)
abbrev pub is_dot : Token → Bool
is_dot t.Dot = true
is_dot _ = false

-- the text is the spellings of the tokens, with blanks before each, and then the rest (this project's profile)
abbrev pub Begins : Bool → List Token → List ℕ → List ℕ → Type 0
Begins after_dot [] text rest = text ≡ rest
Begins after_dot (u ∷ us) text rest = (behind : List ℕ) × ComesFirst after_dot (past_blanks text) u behind × Begins (is_dot u) us behind rest

-- the most bytes of a text (this project's profile)
abbrev pub most_bytes : ℕ
most_bytes = 4096

-- The text spells the tokens: it is their spellings, each the longest that fits, with blanks before, between and behind. (This project's profile.)
pub record SpellsTokens (text : List ℕ) (tokens : List Token) : Type 0 where
  pub short : length text ≤ most_bytes
  pub rest : List ℕ
  pub begins : Begins false tokens text rest
  pub blank : past_blanks rest ≡ []

-- behind these tokens and the blanks that follow them, the text goes on at this byte
pub record PlaceAfter (text : List ℕ) (tokens : List Token) (place : ℕ) : Type 0 where
  pub rest : List ℕ
  pub begins : Begins false tokens text rest
  pub place_is : place + length (past_blanks rest) ≡ length text

-- of each token, the byte where it begins (this project's profile)
pub record ArePlaces (text : List ℕ) (tokens : List Token) (places : List ℕ) : Type 0 where
  pub same : length places ≡ length tokens
  pub each : (k : ℕ) → k < length tokens → PlaceAfter text (take k tokens) (slice_index places k)
