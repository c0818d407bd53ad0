-- Where a script stands while it runs: after a line, after a piece of the input, and once no more is read.
use Rattle.std.specs.Prelude.{◌≡◌, ◌≢◌, ℕ, ◌≤◌, ◌^◌, ◌⊎◌, Bool, true, List, [], ◌∷◌, ◌++◌, Option, Result}
use Rattle.std.specs.Io.KnownBytes.{Appends, IsAtEnd}
use Rattle.scripts.specs.declared.desk.Stop.{Stop}
use Rattle.scripts.specs.declared.desk.Stop.TheVariants as stops
use Rattle.scripts.specs.declared.header.HeaderFault.{HeaderFault}
use Rattle.scripts.specs.declared.header.Opened.{Opened}
use Rattle.json_lines.specs.declared.fault.MessageFault.TheVariants as message_faults
use Rattle.rtdb_model.specs.declared.reply.Reply.TheVariants as replies
use Rattle.scripts.specs.declared.respond.Answer.{Answer}
use Rattle.scripts.specs.declared.respond.Answer.TheVariants as answers
use Rattle.scripts.specs.declared.respond.Stage.{Stage}
use Rattle.scripts.specs.declared.respond.Stage.TheVariants as stages
use Rattle.scripts.specs.declared.script.Script.{Script}
use Rattle.scripts.specs.declared.script.ScriptEnd.{ScriptEnd}
use Rattle.scripts.specs.declared.script.ScriptEnd.TheVariants as ends
use Rattle.scripts.specs.Header.{Opens}
use Rattle.scripts.specs.Ends.{SourceTells}
use Rattle.scripts.specs.Lines.{cut, non_blank}
use Rattle.scripts.specs.Working.Parts.{IsPlain, KeepsFront}
use Rattle.scripts.specs.Said.{Phase, unopened, refused, running, IsWritten, Continues, IsAnswered, as_line}
use Rattle.scripts.specs.Working.Sent.{SinkTells, Passes, Breaks}
use Rattle.rtdb_model.specs.State.{State}
use Rattle.answers.specs.AnswerText as answer

-- ---- phases

-- where a desk stands
abbrev pub phase_of : Stage → Phase
phase_of stages.Unopened = unopened
phase_of stages.Refused = refused
phase_of (stages.Running opened) = running opened.tokens opened.core

-- ---- one line

-- what is written of an answer, where this was written
abbrev pub written_of : Answer → List ℕ → List ℕ
written_of answers.Done text = []
written_of answers.NoMemory text = []
written_of answers.Written text = text

-- what comes behind it
abbrev pub rest_of : Answer → List ℕ
rest_of answers.Done = as_line (answer.text replies.Done)
rest_of answers.NoMemory = as_line (answer.fault_text message_faults.NoMemory)
rest_of answers.Written = 10 ∷ []

-- the line of the output that an answer is
abbrev pub bytes_of : Answer → List ℕ → List ℕ
bytes_of a text = written_of a text ++ rest_of a

-- at a phase a line that is not blank is answered so, and leads to a phase
abbrev pub AnswersAt : Phase → List ℕ → Phase → List ℕ → Type 0
AnswersAt unopened line phase out = (opened : Result Opened HeaderFault) × Opens line opened × Continues opened [] phase out
AnswersAt (running tokens old) line phase out = (said : List ℕ) × (new : State) × IsAnswered tokens old line said new × (phase ≡ running tokens new) × (out ≡ as_line said)
-- after a refused header no line is answered
AnswersAt refused line phase out = ⊥

-- why a line is not answered, or no line after it is
abbrev pub StopsAt : Stop → SinkTells → Phase → List ℕ → List ℕ → List ℕ → Type 0
StopsAt stops.BadHeader sink phase line kept kept' = (out : List ℕ) × AnswersAt phase line refused out × Passes sink.before sink.after (kept ++ out) kept'
StopsAt stops.WriteFault sink phase line kept kept' = (sink.failed ≡ true) × (phase' : Phase) × (out : List ℕ) × AnswersAt phase line phase' out × Breaks sink.before sink.after (kept ++ out)
StopsAt stops.NoMemory sink phase line kept kept' = (sink.after ≡ sink.before) × (kept' ≡ kept)

-- ---- the lines so far

-- More is written after what was sent before, and with what is kept behind it it answers these lines.
abbrev pub HasAnswered : List (List ℕ) → Phase → Option (List ℕ) → Option (List ℕ) → List ℕ → List ℕ → Type 0
HasAnswered lines phase old new sent kept = (more : List ℕ) × Appends old new more × IsWritten (non_blank lines) phase ((sent ++ more) ++ kept)

-- why a script stops at a line after these lines
abbrev pub StopsAfter : Stop → SinkTells → List ℕ → List (List ℕ) → List ℕ → List ℕ → Type 0
StopsAfter stops.BadHeader sink kept lines line sent = HasAnswered (lines ++ line ∷ []) refused sink.before sink.after sent kept
StopsAfter stops.WriteFault sink kept lines line sent = (sink.failed ≡ true) × (phase : Phase) × (lost : List ℕ) × HasAnswered (lines ++ line ∷ []) phase sink.before sink.after sent lost
StopsAfter stops.NoMemory sink kept lines line sent = (phase : Phase) × (phase ≢ refused) × HasAnswered lines phase sink.before sink.after sent kept

-- ---- input in pieces

-- Of what was taken of the input the complete lines are answered, and the beginning of the next is held.
pub record Follows (phase : Phase) (held : List ℕ) (blank : Bool) (kept taken sent : List ℕ) : Type 0 where
  pub lines : List (List ℕ)
  pub rest : List ℕ
  -- whatever comes after it
  pub cuts : (more : List ℕ) → cut (taken ++ more) ≡ lines ++ cut (rest ++ more)
  pub plain : IsPlain rest
  pub holds : KeepsFront held blank rest
  pub stands : IsWritten (non_blank lines) phase (sent ++ kept)

-- a script has taken these bytes of the input, and sent those
abbrev pub IsAfter : Script → List ℕ → List ℕ → Type 0
IsAfter script taken sent = Follows (phase_of script.desk.stage) script.line.kept.items script.line.blank script.desk.outgoing.bytes.items taken sent

-- the first lines of an input are answered
abbrev pub IsFrontAnswered : List ℕ → Phase → List ℕ → Type 0
IsFrontAnswered input phase out = (lines tail : List (List ℕ)) × (cut input ≡ lines ++ tail) × IsWritten (non_blank lines) phase out

-- the first lines of an input are answered, whatever comes after what was taken of it
abbrev pub AnswersFront : List ℕ → Phase → List ℕ → Type 0
AnswersFront taken phase out = (more : List ℕ) → IsFrontAnswered (taken ++ more) phase out

-- The first lines of an input are answered, and not by a refused header; a line stands after them, whatever comes after what was taken of the input.
abbrev pub FallsShort : List ℕ → Phase → List ℕ → Type 0
FallsShort taken phase out =
    (phase ≢ refused)
    × ((more : List ℕ) → (lines : List (List ℕ)) × (line : List ℕ) × (tail : List (List ℕ)) × (cut (taken ++ more) ≡ lines ++ line ∷ tail) × IsWritten (non_blank lines) phase out)

-- why a script stops within a piece of the input
abbrev pub StopsWithin : Stop → SinkTells → List ℕ → List ℕ → List ℕ → Type 0
StopsWithin stops.BadHeader sink kept taken sent = (more : List ℕ) × Appends sink.before sink.after more × AnswersFront taken refused ((sent ++ more) ++ kept)
StopsWithin stops.WriteFault sink kept taken sent = (sink.failed ≡ true) × (phase : Phase) × (lost more : List ℕ) × Appends sink.before sink.after more × AnswersFront taken phase ((sent ++ more) ++ lost)
StopsWithin stops.NoMemory sink kept taken sent = (phase : Phase) × (more : List ℕ) × Appends sink.before sink.after more × FallsShort taken phase ((sent ++ more) ++ kept)

-- ---- once no more is read

-- where a script then stands, by the end that it comes to
abbrev pub Halts : ScriptEnd → SourceTells → Bool → Script → List ℕ → List ℕ → Type 0
Halts ends.Finished source sink_failed script taken sent = IsAtEnd source.left × IsAfter script taken sent
Halts ends.BadHeader source sink_failed script taken sent = AnswersFront taken refused (sent ++ script.desk.outgoing.bytes.items)
Halts ends.ReadFault source sink_failed script taken sent = ((source.failed ≡ true) ⊎ (2 ^ 40 ≤ source.reads)) × (phase_of script.desk.stage ≢ refused) × IsAfter script taken sent
Halts ends.WriteFault source sink_failed script taken sent = (sink_failed ≡ true) × (phase : Phase) × (lost : List ℕ) × AnswersFront taken phase (sent ++ lost)
Halts ends.NoMemory source sink_failed script taken sent = (phase : Phase) × FallsShort taken phase (sent ++ script.desk.outgoing.bytes.items)

-- all that is kept is written, or the sink broke
abbrev pub Sends : ScriptEnd → ScriptEnd → Option (List ℕ) → Option (List ℕ) → Bool → List ℕ → Type 0
Sends end result old new failed kept = ((result ≡ end) × Appends old new kept) ⊎ ((result ≡ ends.WriteFault) × (failed ≡ true) × Breaks old new kept)
