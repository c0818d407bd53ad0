-- Whatever lines come, they have an answer: want of memory, if no other.
use Rattle.std.proofs.Common.{ℕ, List, [], ◌∷◌, ◌++◌, Err, refl, sym, subst, inl, append_assoc}
use Rattle.std.proofs.lemmas.List.{append-nil}
use Rattle.scripts.specs.declared.header.HeaderFault.TheVariants.{Line}
use Rattle.json_lines.specs.declared.fault.MessageFault.TheVariants.{NoMemory}
use Rattle.rtdb_model.specs.State.{State}
use Rattle.tokens.specs.Tokens.{Tokens}
use Rattle.requests.specs.declared.ask.LineFault.TheVariants.{Message}
use Rattle.scripts.specs.Said.{Phase, unopened, refused, running, IsWritten, as_line}
use Rattle.answers.specs.AnswerText.{fault_text}
use Rattle.scripts.specs.Working.Follow.{AnswersAt}
use Rattle.scripts.proofs.Standing.{IsWritten-append, IsWritten-refused}

abbrev want : List ℕ
want = as_line (fault_text NoMemory)

AnswersAt-want-header : (line : List ℕ) → AnswersAt unopened line refused want
AnswersAt-want-header line = (Err (Line NoMemory), inl refl, (refl, refl))

AnswersAt-want : (tokens : Tokens) (state : State) (line : List ℕ) → AnswersAt (running tokens state) line (running tokens state) want
AnswersAt-want tokens state line = (fault_text NoMemory, state, (Err (Message NoMemory), inl refl, (refl, refl)), refl, refl)

-- after one line the others
after-line : (lines more : List (List ℕ)) (line out said : List ℕ) → ((phase : Phase) × (rest : List ℕ) × IsWritten ((lines ++ line ∷ []) ++ more) phase ((out ++ said) ++ rest)) → (phase : Phase) × (rest : List ℕ) × IsWritten (lines ++ line ∷ more) phase (out ++ rest)
after-line lines more line out said r =
    (r.0, said ++ r.1, subst (λ (o : List ℕ). IsWritten (lines ++ line ∷ more) r.0 o) (append_assoc out said r.1) (subst (λ (x : List (List ℕ)). IsWritten x r.0 ((out ++ said) ++ r.1)) (append_assoc lines (line ∷ []) more) r.2))

same-out : (lines : List (List ℕ)) (phase : Phase) (out : List ℕ) → IsWritten lines phase out → IsWritten lines phase (out ++ [])
same-out lines phase out s = subst (λ (o : List ℕ). IsWritten lines phase o) (sym (append-nil out)) s

-- what is said to these lines is the front of what may be said to more
pub IsWritten-more : (lines more : List (List ℕ)) (phase : Phase) (out : List ℕ) → IsWritten lines phase out → (phase' : Phase) × (rest : List ℕ) × IsWritten (lines ++ more) phase' (out ++ rest)
IsWritten-more lines [] phase out s =
    (phase, [], same-out (lines ++ []) phase out (subst (λ (x : List (List ℕ)). IsWritten x phase out) (sym (append-nil lines)) s))
IsWritten-more lines (line ∷ more) refused out s =
    (refused, [], same-out (lines ++ line ∷ more) refused out (IsWritten-refused lines (line ∷ more) out s))
IsWritten-more lines (line ∷ more) unopened out s =
    after-line lines more line out want (IsWritten-more (lines ++ line ∷ []) more refused (out ++ want) (IsWritten-append lines line unopened refused out want s (AnswersAt-want-header line)))
IsWritten-more lines (line ∷ more) (running tokens state) out s =
    after-line lines more line out want (IsWritten-more (lines ++ line ∷ []) more (running tokens state) (out ++ want) (IsWritten-append lines line (running tokens state) (running tokens state) out want s (AnswersAt-want tokens state line)))
