-- Lines that are answered, as a run.
use Rattle.std.proofs.Common.{◌≡◌, ℕ, List, [], ◌∷◌, Result, Ok, Err, refl, sym, ap, subst}
use Rattle.tokens.specs.Tokens.{Tokens}
use Rattle.requests.specs.declared.message.Form.TheVariants.{Script}
use Rattle.requests.specs.declared.ask.Asked.{Asked}
use Rattle.requests.specs.declared.ask.LineFault.{LineFault}
use Rattle.scripts.specs.declared.header.HeaderFault.{HeaderFault}
use Rattle.scripts.specs.declared.header.Opened.{Opened}
use Rattle.requests.specs.Ask.{IsAsked}
use Rattle.requests.proofs.Plain.{asked_file}
use Rattle.scripts.specs.Header.{Opens}
use Rattle.rtdb_model.specs.State.{State}
use Rattle.rtdb_model.specs.Step.{Run}
use Rattle.scripts.specs.Said.{Phase, running, unopened, refused, IsAnsweredBy, AreAnswered, AreAnsweredByRun, Continues, IsWritten, IsSaidByRun, calls_of}

-- one line before the others
one_before : (tokens : Tokens) (old mid new : State) (line text : List ℕ) (lines texts : List (List ℕ)) (message : Result Asked LineFault) → IsAsked tokens Script line message → IsAnsweredBy old message text mid → AreAnsweredByRun tokens mid lines texts new → AreAnsweredByRun tokens old (line ∷ lines) (text ∷ texts) new
one_before tokens old mid new line text lines texts (Ok asked) read by rest = record {
  messages = Ok asked ∷ rest.messages;
  read = (read, rest.read);
  replies = by.0 ∷ rest.replies;
  run = (mid, by.1, rest.run);
  files = (asked_file tokens Script line asked read, rest.files);
  written = (λ i. by.2 i ∷ rest.written i);
}
one_before tokens old mid new line text lines texts (Err fault) read by rest = record {
  messages = Err fault ∷ rest.messages;
  read = (read, rest.read);
  replies = rest.replies;
  run = subst (λ (s : State). Run s (calls_of rest.messages) rest.replies new) by.1 rest.run;
  files = rest.files;
  written = (λ i. by.0 i ∷ rest.written i);
}

pub as_run : (tokens : Tokens) (old new : State) (lines texts : List (List ℕ)) → AreAnswered tokens old lines texts new → AreAnsweredByRun tokens old lines texts new
as_run tokens old new [] [] h = record { messages = []; read = tt; replies = []; run = h; files = tt; written = refl }
as_run tokens old new [] (text ∷ texts) h = absurd h
as_run tokens old new (line ∷ lines) [] h = absurd h
as_run tokens old new (line ∷ lines) (text ∷ texts) h = one_before tokens old h.0 new line text lines texts h.1.0 h.1.1 h.1.2 (as_run tokens h.0 new lines texts h.2)

-- the state of a phase that runs, and another of the others
state_in : State → Phase → State
state_in other unopened = other
state_in other refused = other
state_in other (running tokens state) = state

-- and its tokens
tokens_in : Tokens → Phase → Tokens
tokens_in other unopened = other
tokens_in other refused = other
tokens_in other (running tokens state) = tokens

continued : (said_to : List (List ℕ)) (header : List ℕ) (lines : List (List ℕ)) (tokens : Tokens) (state : State) (out : List ℕ) → said_to ≡ header ∷ lines → (opened : Result Opened HeaderFault) → Opens header opened → Continues opened lines (running tokens state) out → IsSaidByRun said_to tokens state out
unfolding state_in tokens_in
continued said_to header lines tokens state out is (Err fault) opens h = let e : running tokens state ≡ refused = h.0 in cc
continued said_to header lines tokens state out is (Ok opened) opens h = record {
  header = header;
  lines = lines;
  in_order = is;
  opened = opened;
  opens = opens;
  named = sym (ap (tokens_in tokens) h.3);
  texts = h.0;
  run = as_run opened.tokens opened.core state lines h.0 (subst (λ (s : State). AreAnswered opened.tokens opened.core lines h.0 s) (sym (ap (state_in state) h.3)) h.2);
  written = h.4;
}

pub said_by_run : (lines : List (List ℕ)) (out : List ℕ) (tokens : Tokens) (state : State) → IsWritten lines (running tokens state) out → IsSaidByRun lines tokens state out
said_by_run [] out tokens state h = let e : running tokens state ≡ unopened = h.0 in cc
said_by_run (header ∷ lines) out tokens state h = continued (header ∷ lines) header lines tokens state out refl h.0 h.1 h.2
