-- What a script is answered.
use Rattle.std.specs.Prelude.{◌≡◌, ◌≢◌, ℕ, List, [], ◌∷◌, ◌++◌, length, Result, Ok, Err, ⊤, flat_map}
use Rattle.rules_reader.specs.Book.{rules}
use Rattle.rtdb_model.specs.declared.reply.Refusal.TheVariants as refusals
use Rattle.rtdb_model.specs.declared.reply.Reply.{Reply}
use Rattle.rtdb_model.specs.declared.reply.Reply.TheVariants.{Refused}
use Rattle.requests.specs.declared.message.Form.TheVariants.{Script}
use Rattle.rules_reader.specs.declared.fault.RulesFault.TheVariants as rules_faults
use Rattle.tokens.specs.Tokens.{Tokens}
use Rattle.requests.specs.declared.ask.Asked.{Asked}
use Rattle.requests.specs.declared.ask.LineFault.{LineFault}
use Rattle.requests.specs.declared.ask.LineFault.TheVariants as line_faults
use Rattle.json_lines.specs.declared.fault.MessageFault.TheVariants.{NoMemory}
use Rattle.scripts.specs.declared.header.Opened.{Opened}
use Rattle.scripts.specs.declared.header.HeaderFault.{HeaderFault}
use Rattle.scripts.specs.declared.header.HeaderFault.TheVariants.{Line, Rules, Data, BadTokens, TreeFull}
use Rattle.scripts.specs.Lines.{cut, non_blank}
use Rattle.rtdb_model.specs.State.{State}
use Rattle.rtdb_model.specs.Step.{Step, Call, Run}
use Rattle.rtdb_model.specs.Headline.{DeployFiles}
use Rattle.requests.specs.Ask.{IsAsked}
use Rattle.answers.specs.AnswerText as answer
use Rattle.scripts.specs.Header.{Opens}

-- a text as a line of the output
abbrev pub as_line : List ℕ → List ℕ
as_line text = text ++ 10 ∷ []

-- ---- one line

-- what a line asks is answered by a step; a fault in its place, without one
abbrev pub IsAnsweredBy : State → Result Asked LineFault → List ℕ → State → Type 0
IsAnsweredBy old (Ok asked) text new = (reply : Reply) × Step old asked.stamp.now asked.stamp.session asked.event reply new × (text ≡ answer.text reply)
IsAnsweredBy old (Err fault) text new = (text ≡ answer.line_fault_text fault) × (new ≡ old)

-- where these are the tokens, a line is read as what it asks, or refused, and then answered
abbrev pub IsAnswered : Tokens → State → List ℕ → List ℕ → State → Type 0
IsAnswered tokens old line text new = (message : Result Asked LineFault) × IsAsked tokens Script line message × IsAnsweredBy old message text new

-- the same where memory suffices: what is asked is answered by a step that does not want it
abbrev pub IsAnsweredInFullBy : State → Result Asked LineFault → List ℕ → State → Type 0
IsAnsweredInFullBy old (Ok asked) text new = (reply : Reply) × (reply ≢ Refused refusals.NoMemory) × Step old asked.stamp.now asked.stamp.session asked.event reply new × (text ≡ answer.text reply)
IsAnsweredInFullBy old (Err fault) text new = (fault ≢ line_faults.Message NoMemory) × (fault ≢ line_faults.Rules rules_faults.NoMemory) × (text ≡ answer.line_fault_text fault) × (new ≡ old)

-- a line is answered by what it asks, and nothing wants memory
abbrev pub IsAnsweredInFull : Tokens → State → List ℕ → List ℕ → State → Type 0
IsAnsweredInFull tokens old line text new = (message : Result Asked LineFault) × IsAsked tokens Script line message × IsAnsweredInFullBy old message text new

-- these lines are answered by these texts, one after another, from old to new
abbrev pub AreAnswered : Tokens → State → List (List ℕ) → List (List ℕ) → State → Type 0
AreAnswered tokens old [] [] new = new ≡ old
AreAnswered tokens old (line ∷ lines) (text ∷ texts) new = (mid : State) × IsAnswered tokens old line text mid × AreAnswered tokens mid lines texts new
AreAnswered tokens old [] (text ∷ texts) new = ⊥
AreAnswered tokens old (line ∷ lines) [] new = ⊥

-- ---- the same as a run of calls

-- each line is read as what it asks, or refused
abbrev pub AreRead : Tokens → List (List ℕ) → List (Result Asked LineFault) → Type 0
AreRead tokens [] [] = ⊤
AreRead tokens (line ∷ lines) (message ∷ messages) = IsAsked tokens Script line message × AreRead tokens lines messages
AreRead tokens [] (message ∷ messages) = ⊥
AreRead tokens (line ∷ lines) [] = ⊥

-- the calls that messages ask for; a fault asks for none
abbrev pub calls_of : List (Result Asked LineFault) → List Call
calls_of [] = []
calls_of (Ok asked ∷ messages) = record { now = asked.stamp.now; session = asked.stamp.session; event = asked.event } ∷ calls_of messages
calls_of (Err fault ∷ messages) = calls_of messages

-- the texts of the replies to calls, each in the place of its message, and of faults in theirs
abbrev pub texts_of : List (Result Asked LineFault) → List Reply → List (List ℕ)
texts_of [] replies = []
texts_of (Ok asked ∷ messages) [] = []
texts_of (Ok asked ∷ messages) (reply ∷ replies) = answer.text reply ∷ texts_of messages replies
texts_of (Err fault ∷ messages) replies = answer.line_fault_text fault ∷ texts_of messages replies

-- Lines are answered by the texts of a run over what they ask; what they deploy are rules files.
pub record AreAnsweredByRun (tokens : Tokens) (old : State) (lines texts : List (List ℕ)) (new : State) : Type 0 where
  pub messages : List (Result Asked LineFault)
  pub read : AreRead tokens lines messages
  pub replies : List Reply
  pub run : Run old (calls_of messages) replies new
  pub files : DeployFiles (calls_of messages)
  pub written : texts ≡ texts_of messages replies

-- ---- a whole script

-- Where a script stands: before its header, after one that was refused, or with tokens in a state.
pub data Phase : Type 0 where
  unopened : Phase
  refused : Phase
  running : Tokens → State → Phase

-- the text of a header's fault
abbrev pub header_fault_text : HeaderFault → List ℕ
header_fault_text (Line fault) = answer.fault_text fault
header_fault_text (Rules fault) = answer.rules_fault_text fault
header_fault_text (Data fault) = answer.fault_text fault
header_fault_text BadTokens = answer.bad_tokens_text
header_fault_text TreeFull = answer.text (Refused refusals.TreeFull)

-- After a header that opened with this, what is written for it and for the lines after it. A refused header is answered alone.
abbrev pub Continues : Result Opened HeaderFault → List (List ℕ) → Phase → List ℕ → Type 0
Continues (Err fault) lines phase out = (phase ≡ refused) × (out ≡ as_line (header_fault_text fault))
Continues (Ok opened) lines phase out =
    (texts : List (List ℕ)) × (state : State) × AreAnswered opened.tokens opened.core lines texts state
    × (phase ≡ running opened.tokens state) × (out ≡ as_line (answer.accepted_text (length (rules opened.core.rules))) ++ flat_map as_line texts)

-- what is written for lines that are not blank, the first of which is the header
abbrev pub IsWritten : List (List ℕ) → Phase → List ℕ → Type 0
IsWritten [] phase out = (phase ≡ unopened) × (out ≡ [])
IsWritten (header ∷ lines) phase out = (opened : Result Opened HeaderFault) × Opens header opened × Continues opened lines phase out

-- The output for an input: the answer to its header, and if that is accepted an answer to each later line, in order.
abbrev pub Said : List ℕ → Phase → List ℕ → Type 0
Said input phase out = IsWritten (non_blank (cut input)) phase out

-- Lines whose header was accepted: their header, the state and the tokens that it opens, and the output as a run from this state.
pub record IsSaidByRun (said_to : List (List ℕ)) (tokens : Tokens) (state : State) (out : List ℕ) : Type 0 where
  pub header : List ℕ
  pub lines : List (List ℕ)
  pub in_order : said_to ≡ header ∷ lines
  pub opened : Opened
  pub opens : Opens header (Ok opened)
  pub named : opened.tokens ≡ tokens
  pub texts : List (List ℕ)
  pub run : AreAnsweredByRun opened.tokens opened.core lines texts state
  pub written : out ≡ as_line (answer.accepted_text (length (rules opened.core.rules))) ++ flat_map as_line texts
