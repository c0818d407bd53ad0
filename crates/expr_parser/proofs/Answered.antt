-- Each list of tokens, and each text, spells an expression or is refused.
use Rattle.std.proofs.Common.{◌≡◌, ◌≢◌, ℕ, List, [], ◌∷◌, length, Ok, Err, refl, inl, inr, ◌⊎◌, arith}
use Rattle.expr_tokens.specs.declared.fault.ExprFault.{ExprFault}
use Rattle.expr_tokens.specs.declared.fault.ExprFault.TheVariants as text_fault
use Rattle.expr_tokens.specs.declared.fault.Excluded.TheVariants as left_out
use Rattle.expr_tokens.specs.declared.token.Token.{Token}
use Rattle.expr_tokens.specs.Spelling.{SpellsTokens, ArePlaces}
use Rattle.expr_tokens.proofs.Answered.{scanned, no_memory_fault}
use Rattle.expr_parser.specs.declared.parser.ParseFault.{ParseFault}
use Rattle.expr_parser.specs.declared.parser.ParseFault.TheVariants.{NoMemory, Unexpected, Bracket}
use Rattle.expr_parser.specs.Tree.{SyntaxTree}
use Rattle.expr_parser.specs.Grammar.{Spells}
use Rattle.expr_parser.specs.Stopping.{Refused}
use Rattle.expr_parser.specs.Text.{SpellsExpression, RefusedText}
use Rattle.expr_parser.specs.Working.Reading.{Whole, Found, read}
use Rattle.expr_parser.proofs.Ends.{read_ends}
use Rattle.expr_parser.proofs.Top.{is_found, is_refused, left_over}
use Rattle.expr_parser.proofs.Placed.{placed, names_byte, names_bracket}

-- an expression, or where the tokens stop to be one
abbrev pub Parsed : List Token → Type 0
Parsed ts = ((x : SyntaxTree) × Spells ts x) ⊎ ((fault : ParseFault) × Refused ts fault × (fault ≢ NoMemory))

parsed_by : (ts : List Token) (found : Found SyntaxTree) → read Whole 0 ts ≡ found → Parsed ts
parsed_by ts (Ok (x, [])) e = inl (x, is_found ts x [] e refl)
parsed_by ts (Ok (x, u ∷ left)) e = inr (Unexpected (length (u ∷ left)), left_over ts x (u ∷ left) e (λ n. absurd (omega arith)), λ n. cc)
parsed_by ts (Err (Unexpected n)) e = inr (Unexpected n, is_refused ts (Unexpected n) e, λ m. cc)
parsed_by ts (Err (Bracket n)) e = inr (Bracket n, is_refused ts (Bracket n) e, λ m. cc)
parsed_by ts (Err NoMemory) e = absurd (read_ends Whole 0 ts e)

-- tokens spell an expression, or stop to be one
pub each_parsed : (ts : List Token) → Parsed ts
each_parsed ts = parsed_by ts (read Whole 0 ts) refl

-- an expression of the text, or why it spells none
abbrev pub Read : List ℕ → Type 0
Read text = ((x : SyntaxTree) × SpellsExpression text x) ⊎ ((fault : ExprFault) × RefusedText text fault × (fault ≢ text_fault.NoMemory))

stopped : (text : List ℕ) (us : List Token) (places : List ℕ) → SpellsTokens text us → ArePlaces text us places → (fault : ParseFault) → Refused us fault → fault ≢ NoMemory → Read text
stopped text us places h p (Unexpected n) r other = inr (text_fault.BadExpression (placed text places n), names_byte text us places n (placed text places n) h p r refl, λ m. cc)
stopped text us places h p (Bracket n) r other = inr (text_fault.NotInProfile left_out.Bracket, names_bracket text us n h r, λ m. cc)
stopped text us places h p NoMemory r other = absurd (other refl)

parsed_of : (text : List ℕ) (us : List Token) (places : List ℕ) → SpellsTokens text us → ArePlaces text us places → Parsed us → Read text
parsed_of text us places h p (inl x) = inl (x.0, record { tokens = us; scanned = h; parsed = x.1 })
parsed_of text us places h p (inr r) = stopped text us places h p r.0 r.1 r.2

-- each text spells an expression, or is refused
pub each_text : (text : List ℕ) → Read text
each_text text = elim (scanned text) [
  | inl x ↦ parsed_of text x.0 x.1 x.2 x.3 (each_parsed x.0)
  | inr f ↦ inr (f.0, inr (inl f.1), λ e. no_memory_fault text f.0 f.1 e)
]
