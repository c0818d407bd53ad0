-- How a script ends.
use Rattle.std.specs.Prelude.{◌≡◌, ◌≢◌, ℕ, ◌≤◌, ◌^◌, ◌⊎◌, Bool, true, List, [], ◌∷◌, ◌++◌, Option, IfSome}
use Rattle.std.specs.Io.KnownBytes.{IsAtEnd}
use Rattle.scripts.specs.declared.script.ScriptEnd.{ScriptEnd}
use Rattle.scripts.specs.declared.script.ScriptEnd.TheVariants as ends
use Rattle.scripts.specs.Lines.{cut, non_blank}
use Rattle.scripts.specs.Said.{Phase, refused, IsWritten, Said}

-- what is left of an input, where its source reports it; where it does not, some rest
abbrev pub IsRest : Option (List ℕ) → List ℕ → Type 0
IsRest left rest = IfSome left (λ known. rest ≡ known)

-- what a source reports: what is left of the input, where it knows that, whether a read has failed, and how many were made
pub record SourceTells : Type 0 where
  pub left : Option (List ℕ)
  pub failed : Bool
  pub reads : ℕ

-- By the end of a script, what was written, where these bytes of the input were taken, the source reports this, and it is known whether the sink has failed.
abbrev pub Ends : ScriptEnd → List ℕ → SourceTells → Bool → List ℕ → Type 0
-- the whole input is read, and what is written is said to it
Ends ends.Finished taken source sink_failed out = IsAtEnd source.left × (phase : Phase) × (phase ≢ refused) × Said taken phase out
-- the header's refusal alone, whatever is left
Ends ends.BadHeader taken source sink_failed out = (rest : List ℕ) × IsRest source.left rest × Said (taken ++ rest) refused out
-- a read has failed, or as many were made as may be; the answers to the lines that were complete
Ends ends.ReadFault taken source sink_failed out =
    ((source.failed ≡ true) ⊎ (2 ^ 40 ≤ source.reads))
    × (phase : Phase) × (phase ≢ refused) × (lines : List (List ℕ)) × (rest : List ℕ) × (cut taken ≡ lines ++ rest ∷ []) × IsWritten (non_blank lines) phase out
-- the sink has failed; the front of what is said to the whole input
Ends ends.WriteFault taken source sink_failed out =
    (sink_failed ≡ true) × (rest : List ℕ) × IsRest source.left rest × (phase : Phase) × (lost : List ℕ) × Said (taken ++ rest) phase (out ++ lost)
-- a line could not be held or answered; the whole answers to the lines before it
Ends ends.NoMemory taken source sink_failed out =
    (phase : Phase) × (phase ≢ refused) × (lines : List (List ℕ)) × (line : List ℕ) × (tail : List (List ℕ)) × (cut taken ≡ lines ++ line ∷ tail) × IsWritten (non_blank lines) phase out
