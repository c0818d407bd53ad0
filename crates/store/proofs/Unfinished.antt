-- What is recovered of a file that a crash left while departures were appended.
use Rattle.std.proofs.Common.{◌≡◌, ◌⊎◌, ⊎_elim, inl, inr, ℕ, List, [], ◌++◌, sym, ◌∙◌, ap, subst, append_assoc}
use Rattle.std.proofs.lemmas.List.{append-nil}
use Rattle.journal.specs.Recovery.{Survives, HasStranger}
use Rattle.rtdb_model.specs.declared.reply.Reply.{Reply}
use Rattle.rtdb_model.specs.State.{State}
use Rattle.rtdb_model.specs.Step.{Call}
use Rattle.rtdb_laws.specs.Effects.{changing}
use Rattle.store.specs.Replay.{LeadTo, AreEntriesOf}
use Rattle.store.specs.Recovered.{IsBeginningOf}
use Rattle.store.specs.Kept.{HasDatabase}
use Rattle.store.specs.Opened.{SurvivesDepartures}
use Rattle.store.proofs.Adding.{none_in}
use Rattle.store.proofs.Crashes.{crash_left}
use Rattle.store.proofs.Gone.{all_changing}
use Rattle.store.proofs.Histories.{Parts, parts}
use Rattle.store.proofs.Silent.{lead_silent}

-- a beginning of a first part of a history is one of the history
further : (old new state : State) (calls : List Call) (replies : List Reply) (front back kept : List (List ℕ)) (at : Parts old new calls replies front back) → IsBeginningOf old at.earlier at.answered kept state → IsBeginningOf old calls replies kept state
further old new state calls replies front back kept at begun = record {
  earlier = begun.earlier;
  later = begun.later ++ at.later;
  answered = begun.answered;
  unanswered = begun.unanswered ++ at.unanswered;
  left = begun.left;
  calls_are = at.calls_are ∙ ap (λ l. l ++ at.later) begun.calls_are ∙ append_assoc begun.earlier begun.later at.later;
  replies_are = at.replies_are ∙ ap (λ l. l ++ at.unanswered) begun.replies_are ∙ append_assoc begun.answered begun.unanswered at.unanswered;
  run = begun.run;
  kept_are = begun.kept_are;
  state_is = begun.state_is;
}

pub begun_departures : (file left rest behind : List ℕ) (now : ℕ) (state : State) (survives : SurvivesDepartures file now left) → HasDatabase survives.found.identifier rest behind state left
    → ((kept : List (List ℕ)) × IsBeginningOf survives.found.before survives.found.have_left.calls survives.found.have_left.replies kept state)
    ⊎ HasStranger survives.found.identifier survives.found.recovered.groups (survives.found.recovered.groups ++ survives.survives.appended) left
begun_departures file left rest behind now state survives read =
    let found = survives.found in
    let gone = found.have_left in
    let had = found.recovered in
    let appended = survives.survives in
    let id = found.identifier in
    let groups = had.groups in
    let no_more : groups ++ [] ≡ groups = append-nil groups in
    let all : AreEntriesOf (appended.first ++ appended.rest) (changing gone.calls gone.replies) =
    subst (λ l. AreEntriesOf l (changing gone.calls gone.replies)) appended.entries_are (subst (AreEntriesOf survives.departures) (sym (all_changing now gone.calls gone.replies gone.depart)) gone.kept) in
    let at = parts found.before found.after gone.calls gone.replies appended.first appended.rest gone.run all in
    let lead = subst (LeadTo had.entries found.text) (lead_silent had.entries found.text found.before had.lead) had.lead in
    let left_so = subst (λ gs. Survives id gs (groups ++ appended.appended) left) (sym no_more) appended.survives in
    ⊎_elim
    (λ begun. inl (begun.0, further found.before found.after state gone.calls gone.replies appended.first appended.rest begun.0 at begun.2))
    (λ stranger. inr (subst (λ gs. HasStranger id gs (groups ++ appended.appended) left) no_more stranger))
    (crash_left id left found.text behind groups [] appended.appended read.groups rest read.entries had.entries [] appended.first found.before at.left state at.earlier at.answered
    had.are_in lead at.run at.kept_are appended.are_in none_in left_so read.read read.are_in read.lead)
