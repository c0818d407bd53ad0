-- What is added for one line, from the parts of its answer.
use Rattle.std.proofs.Common.{◌≡◌, ℕ, List, [], length, Result, Ok, Err, IfOk, refl, sym, ◌∙◌}
use Rattle.std.proofs.lemmas.List.{append-nil}
use Rattle.std.proofs.lemmas.Result.{IfOk-weaker}
use Rattle.rules_reader.specs.Book.{rules}
use Rattle.tokens.specs.Tokens.{Tokens}
use Rattle.requests.specs.declared.message.Form.TheVariants.{Script}
use Rattle.requests.specs.declared.ask.Asked.{Asked}
use Rattle.requests.specs.declared.ask.LineFault.{LineFault}
use Rattle.scripts.specs.declared.header.Opened.{Opened}
use Rattle.rtdb_model.specs.State.{State}
use Rattle.requests.specs.Ask.{IsAsked}
use Rattle.answers.specs.AnswerText.{line_fault_text, accepted_text}
use Rattle.scripts.specs.Header.{Opens}
use Rattle.scripts.specs.declared.respond.Answer.{Answer}
use Rattle.scripts.specs.Said.{unopened, running, as_line, IsAnsweredBy}
use Rattle.scripts.specs.Working.Follow.{bytes_of, AnswersAt}

-- an answer to what is asked, or to a fault in its place
abbrev Says : State → Result Asked LineFault → State → List ℕ → Type 0
Says old message new out = (said : List ℕ) × IsAnsweredBy old message said new × (out ≡ as_line said)

pub IfOk-AnswersAt : {E : Type 0} (result : Result Answer E) (tokens : Tokens) (line : List ℕ) (old new : State) (message : Result Asked LineFault) (text : List ℕ) → IsAsked tokens Script line message → IfOk result (λ answer. Says old message new (bytes_of answer text)) → IfOk result (λ answer. AnswersAt (running tokens old) line (running tokens new) (bytes_of answer text))
IfOk-AnswersAt result tokens line old new message text asked =
    IfOk-weaker result (λ answer. Says old message new (bytes_of answer text)) (λ answer. AnswersAt (running tokens old) line (running tokens new) (bytes_of answer text)) (λ answer s. (s.0, new, (message, asked, s.1), refl, s.2))

pub IfOk-AnswersAt-fault : {E : Type 0} (result : Result Answer E) (tokens : Tokens) (line : List ℕ) (state : State) (fault : LineFault) (text : List ℕ) → IsAsked tokens Script line (Err fault) → IfOk result (λ answer. bytes_of answer text ≡ as_line (line_fault_text fault)) → IfOk result (λ answer. AnswersAt (running tokens state) line (running tokens state) (bytes_of answer text))
IfOk-AnswersAt-fault result tokens line state fault text asked =
    IfOk-weaker result (λ answer. bytes_of answer text ≡ as_line (line_fault_text fault)) (λ answer. AnswersAt (running tokens state) line (running tokens state) (bytes_of answer text)) (λ answer e. (line_fault_text fault, state, (Err fault, asked, (refl, refl)), refl, e))

-- a header that is accepted
pub AnswersAt-accepted : (line : List ℕ) (opened : Opened) (out : List ℕ) → Opens line (Ok opened) → out ≡ as_line (accepted_text (length (rules opened.core.rules))) → AnswersAt unopened line (running opened.tokens opened.core) out
AnswersAt-accepted line opened out o e = (Ok opened, o, ([], opened.core, refl, refl, e ∙ sym (append-nil _)))
