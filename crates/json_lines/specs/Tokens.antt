-- The tokens that are still to come, and what of a text is plain.
use Rattle.std.specs.Prelude.{◌≡◌, ◌≢◌, ◌⊎◌, ⊤, ℕ, ◌<◌, ◌==◌, ◌||◌, nat_lt, not, Bool, true, List, ◌∷◌, ◌++◌, length, get_or, Option, Some, None}
use Rattle.std.specs.Char.{is_ascii_digit}
use Rattle.std.specs.List.{list_all}
use Rattle.json.specs.Token.{Token}
use Rattle.json.specs.Word.{is_space}
use Rattle.json.specs.Lex.{between, lex, fresh, after_value, after_comma, punctuate}
use Rattle.json_lines.specs.declared.plain_tokens.TokenPlace.{TokenPlace}
use Rattle.json_lines.specs.declared.plain_tokens.TokenPlace.TheVariants as places

-- ---- tokens

-- the tokens of a text that stands there
abbrev pub tokens_at : TokenPlace → List ℕ → List Token
tokens_at places.Fresh text = punctuate fresh (lex between text)
tokens_at places.AfterValue text = punctuate after_value (lex between text)
tokens_at places.AfterComma text = punctuate after_comma (lex between text)

-- the text begins with a value that is one token, and goes on with the rest
abbrev pub BeginsWith : Token → List ℕ → List ℕ → Type 0
BeginsWith token text rest = tokens_at places.Fresh text ≡ token ∷ tokens_at places.AfterValue rest

-- a key or a value may begin there
abbrev pub MayBegin : TokenPlace → Type 0
MayBegin places.Fresh = ⊤
MayBegin places.AfterValue = ⊥
MayBegin places.AfterComma = ⊤

-- an object may end there
abbrev pub MayClose : TokenPlace → Type 0
MayClose places.Fresh = ⊤
MayClose places.AfterValue = ⊤
MayClose places.AfterComma = ⊥

-- those of the reader that goes on, or, where there is none, the others
abbrev pub tokens_left : Option (List Token) → List Token → List Token
tokens_left (Some ts) plain = ts
tokens_left None plain = plain

-- ---- plain text

-- a blank comes first
pub record BeginsBlank (text : List ℕ) : Type 0 where
  pub some : 0 < length text
  pub ascii : get_or text 0 0 < 128
  pub space : is_space (get_or text 0 0) ≡ true

-- a byte that ends what stands in quotes, or begins an escape, or stands in no text
abbrev pub is_stop : ℕ → Bool
is_stop x = ((x == 34) || (x == 92)) || nat_lt x 32

-- a byte that stands in quotes as it is
abbrev pub is_plain : ℕ → Bool
is_plain x = not (is_stop x)

-- a byte that is no digit
abbrev pub is_no_digit : ℕ → Bool
is_no_digit x = nat_lt x 48 || nat_lt 57 x

-- a text of such bytes stands in quotes before the rest
pub record IsQuoted (text s rest : List ℕ) : Type 0 where
  pub whole : text ≡ 34 ∷ (s ++ 34 ∷ rest)
  pub bytes : list_all is_plain s ≡ true

-- a value ends before the text: a comma comes, or the brace that closes an object
abbrev pub EndsValue : List ℕ → Type 0
EndsValue text = (get_or text 0 0 ≡ 44) ⊎ (get_or text 0 0 ≡ 125)

-- digits stand before the rest, of which a 0 is the first only where it is the only one
pub record AreDigits (text digits rest : List ℕ) : Type 0 where
  pub whole : text ≡ digits ++ rest
  pub bytes : list_all is_ascii_digit digits ≡ true
  pub some : 0 < length digits
  pub first : 1 < length digits → get_or digits 0 0 ≢ 48

-- a minus stands before such digits, which end a value
pub record IsNegative (text number rest : List ℕ) : Type 0 where
  pub digits : List ℕ
  pub signed : number ≡ 45 ∷ digits
  pub behind : AreDigits (digits ++ rest) digits rest
  pub whole : text ≡ number ++ rest
  pub ends : EndsValue rest
