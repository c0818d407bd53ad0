-- The earliest fault of a text that spells no tokens.
use Rattle.std.specs.Prelude.{◌≡◌, ℕ, ◌+◌, ◌<◌, ◌≤◌, true, false, List, [], ◌∷◌, ◌++◌, length, None, IsSome, ◌⊎◌, ◌≢◌}
use Rattle.std.specs.Char.{is_ascii_digit}
use Rattle.expr_tokens.specs.declared.fault.ExprFault.{ExprFault}
use Rattle.expr_tokens.specs.declared.fault.ExprFault.TheVariants.{BadExpression, NotInProfile, NoMemory}
use Rattle.expr_tokens.specs.declared.fault.Excluded.TheVariants.{Slash, Number, Bracket}
use Rattle.expr_tokens.specs.declared.token.Token.{Token}
use Rattle.expr_tokens.specs.Words.{past_blanks, is_numeral, numeral, greatest, begins_fraction, ends_number}
use Rattle.expr_tokens.specs.Quoted.{is_quote, meaning, escape_at}
use Rattle.expr_tokens.specs.Token.{token_of}
use Rattle.expr_tokens.specs.Spelling.{Begins, most_bytes}

-- a / comes first (this project's profile)
pub record BeginsSlash (text : List ℕ) : Type 0 where
  pub rest : List ℕ
  pub parts : text ≡ 47 ∷ rest

-- digits come first, and behind them at once a point and a digit, or an exponent (this project's profile)
pub record BeginsFraction (text : List ℕ) : Type 0 where
  pub digits : List ℕ
  pub rest : List ℕ
  pub parts : text ≡ digits ++ rest
  pub are_digits : is_numeral digits ≡ true
  pub fraction : begins_fraction rest ≡ true

-- digits come first that say too large a number (this project's profile)
pub record BeginsLarge (text : List ℕ) : Type 0 where
  pub digits : List ℕ
  pub rest : List ℕ
  pub parts : text ≡ digits ++ rest
  pub are_digits : is_numeral digits ≡ true
  pub whole : ends_number rest ≡ true
  pub large : greatest < numeral digits

-- the bytes would be those of a text, if its quote stood behind them (this project's profile)
abbrev pub IsContent : ℕ → List ℕ → Type 0
IsContent quote content = IsSome (meaning (quote ∷ (content ++ quote ∷ [])))

-- a text comes first, and in it, so many bytes on, a backslash that begins no escape (this project's profile)
pub record BeginsBadEscape (text : List ℕ) (on : ℕ) : Type 0 where
  pub quote : ℕ
  pub content : List ℕ
  pub rest : List ℕ
  pub parts : text ≡ quote ∷ (content ++ 92 ∷ rest)
  pub is_content : IsContent quote content
  pub bad : escape_at rest ≡ None
  pub on_is : on ≡ 1 + length content

-- a text comes first, and is not closed so many bytes on, where all ends (this project's profile)
pub record BeginsUnclosed (text : List ℕ) (on : ℕ) : Type 0 where
  pub quote : ℕ
  pub content : List ℕ
  pub parts : text ≡ quote ∷ content
  pub is_content : IsContent quote content
  pub on_is : on ≡ 1 + length content

-- a byte comes first that begins no token: no digit, no quote and no /, and no front of the text is a token (this project's profile)
pub record BeginsNoToken (text : List ℕ) : Type 0 where
  pub first : ℕ
  pub rest : List ℕ
  pub parts : text ≡ first ∷ rest
  pub no_digit : is_ascii_digit first ≡ false
  pub no_quote : is_quote first ≡ false
  pub no_slash : first ≢ 47
  pub none : (word others : List ℕ) → text ≡ word ++ others → token_of false word ≡ None

-- what is misspelled, so many bytes on
abbrev pub IsMisspelled : List ℕ → ℕ → Type 0
IsMisspelled text on = ((on ≡ 0) × BeginsLarge text) ⊎ ((on ≡ 0) × BeginsNoToken text) ⊎ BeginsBadEscape text on ⊎ BeginsUnclosed text on

-- A text that goes on at this byte begins with a fault, which has a place. (This project's profile.)
abbrev pub IsFaultAt : ℕ → List ℕ → ExprFault → ℕ → Type 0
IsFaultAt byte text (BadExpression named) place = (named ≡ place) × (on : ℕ) × (place ≡ byte + on) × IsMisspelled text on
IsFaultAt byte text (NotInProfile Slash) place = (place ≡ byte) × BeginsSlash text
IsFaultAt byte text (NotInProfile Number) place = (place ≡ byte) × BeginsFraction text
IsFaultAt byte text (NotInProfile Bracket) place = ⊥
IsFaultAt byte text NoMemory place = ⊥

-- the fault stands behind some tokens of the text, at this place
pub record TokenFault (text : List ℕ) (fault : ExprFault) (place : ℕ) : Type 0 where
  pub tokens : List Token
  pub rest : List ℕ
  pub begins : Begins false tokens text rest
  pub byte : ℕ
  pub byte_is : byte + length (past_blanks rest) ≡ length text
  pub fault_is : IsFaultAt byte (past_blanks rest) fault place

-- a token's fault is the earliest: the text is not too long, or the fault stands before the byte that is one too many
pub record IsOfToken (text : List ℕ) (fault : ExprFault) : Type 0 where
  pub place : ℕ
  pub stands : TokenFault text fault place
  pub early : (length text ≤ most_bytes) ⊎ (place < most_bytes)

-- the length is the earliest: no token's fault stands before the byte that is one too many
pub record IsOfLength (text : List ℕ) (fault : ExprFault) : Type 0 where
  pub long : most_bytes < length text
  pub fault_is : fault ≡ BadExpression most_bytes
  pub none : (other : ExprFault) (place : ℕ) → TokenFault text other place → most_bytes ≤ place

-- The earliest fault of the text: a token's, or that it is too long, which counts as one at byte 4096. (This project's profile.)
abbrev pub IsEarliest : List ℕ → ExprFault → Type 0
IsEarliest text fault = IsOfToken text fault ⊎ IsOfLength text fault
