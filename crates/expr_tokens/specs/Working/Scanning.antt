-- What the scanner's parts find at the front of a text: words of private clauses and of proofs alone.
use Rattle.std.specs.Prelude.{◌≡◌, ℕ, ◌≤◌, Bool, true, false, ◌==◌, ◌||◌, not, if◌then◌else◌, List, [], ◌∷◌, ◌++◌, length, take, drop, Option, Some, None, ◌⊎◌, min}
use Rattle.std.specs.List.{list_all}
use Rattle.std.specs.Char.{is_ascii_digit}
use Rattle.std.specs.Borrow.{Bor}
use Rattle.expr_tokens.specs.declared.fault.ExprFault.{ExprFault}
use Rattle.expr_tokens.specs.declared.token.Token.{Token}
use Rattle.expr_tokens.specs.Words.{first_is, is_name_start}
use Rattle.expr_tokens.specs.Quoted.{is_quote, unquoted, before, escape_at}
use Rattle.expr_tokens.specs.declared.fault.ExprFault.TheVariants.{BadExpression}
use Rattle.expr_tokens.specs.Spelling.{most_bytes}
use Rattle.expr_tokens.specs.Faults.{IsFaultAt}

-- a name comes first
abbrev pub begins_name : List ℕ → Bool
begins_name text = first_is is_name_start text

-- what begins neither a number nor a name nor a text nor a capture, and is no /
abbrev pub is_other : ℕ → Bool
is_other c = not (is_ascii_digit c || is_name_start c || is_quote c || c == 36 || c == 47)

-- a byte of a text in such quotes that stands for itself
abbrev pub is_plain : ℕ → ℕ → Bool
is_plain quote c = not (c == quote || c == 92)

-- so many bytes come first that pass, and no more
pub record IsRun (p : ℕ → Bool) (text : List ℕ) (n : ℕ) : Type 0 where
  pub within : n ≤ length text
  pub passes : list_all p (take n text) ≡ true
  pub stops : first_is p (drop n text) ≡ false

-- a fault stands at the front of a text that goes on at this byte
abbrev pub IsFaultFrom : ℕ → List ℕ → ExprFault → Type 0
IsFaultFrom byte text fault = (place : ℕ) × IsFaultAt byte text fault place

-- the text begins with the word
abbrev pub begins_with : List ℕ → List ℕ → Bool
begins_with [] text = true
begins_with (c ∷ cs) [] = false
begins_with (c ∷ cs) (d ∷ ds) = if d == c then begins_with cs ds else false

-- the first word of a table that the text begins with: its token and its length
abbrev pub first_in : List (List ℕ × Token) → List ℕ → Option (Token × ℕ)
first_in [] text = None
first_in (s ∷ ss) text = if begins_with s.0 text then Some (s.1, length s.0) else first_in ss text

-- an escape that was found
abbrev pub seen : Option (ℕ × Bor (List ℕ)) → Option (ℕ × List ℕ)
seen None = None
seen (Some x) = Some (x.0, x.1.now)

-- whole characters and escapes of a text in such quotes, and what they mean
pub record IsInside (quote : ℕ) (content : List ℕ) : Type 0 where
  pub says : List ℕ
  pub goes_on : (rest : List ℕ) → unquoted quote (content ++ rest) ≡ before says (unquoted quote rest)

-- the closing quote stands so many bytes on
pub record ClosesAt (quote : ℕ) (text : List ℕ) (on : ℕ) : Type 0 where
  pub content : List ℕ
  pub rest : List ℕ
  pub parts : text ≡ content ++ quote ∷ rest
  pub inside : IsInside quote content
  pub on_is : on ≡ length content

-- so many bytes on a bad escape stands, or all ends
pub record FailsAt (quote : ℕ) (text : List ℕ) (on : ℕ) : Type 0 where
  pub content : List ℕ
  pub rest : List ℕ
  pub parts : text ≡ content ++ rest
  pub inside : IsInside quote content
  pub on_is : on ≡ length content
  pub fails : (rest ≡ []) ⊎ ((more : List ℕ) × (rest ≡ 92 ∷ more) × (escape_at more ≡ None))

-- a fault at the byte that is one too many, or behind it, is that of the length
abbrev pub capped : ExprFault → ExprFault
capped (BadExpression byte) = BadExpression (min byte most_bytes)
capped fault = fault
