-- What each step gives.
use Rattle.std.proofs.Common.{Option, true, ◌≡◌, ◌≢◌, ◌==◌, ◌&&◌, ℕ, cond, inl, inr, List, sym, ap, subst, ◌∙◌}
use Rattle.std.proofs.lemmas.Bool.{false≢true}
use Rattle.tree_model.specs.Path.{Path}
use Rattle.tree_model.specs.Write.{Write}
use Rattle.rules_reader.specs.Book.{Book}
use Rattle.rules_reader.specs.Place.{HasOneCapture}
use Rattle.listeners.specs.Query.{Query}
use Rattle.rtdb_model.specs.declared.event.Event.{Event}
use Rattle.rtdb_model.specs.declared.event.Event.TheVariants.{Open, Close, SignIn, SignOut, Get, Set, Remove, Update, Listen, Unlisten, Poll, Tick, Deploy, OnSet, OnRemove, OnUpdate, OnCancel, Leave, RunNext}
use Rattle.rtdb_model.specs.declared.reply.Refusal.{Refusal}
use Rattle.rtdb_model.specs.declared.reply.Refusal.TheVariants.{NoMemory}
use Rattle.rtdb_model.specs.declared.reply.Reply.{Reply}
use Rattle.rtdb_model.specs.declared.reply.Reply.TheVariants.{Refused}
use Rattle.rtdb_model.specs.State.{State, identity_of}
use Rattle.rtdb_model.specs.Step.{Outcome, refused, removal, outcome, takes_no_memory, Step, Call}
use Rattle.rtdb_model.specs.Headline.{AsksFor, KeepsFor, IsStoppedRightly, Leaves, IsDoneRightly, IsReadJudged, IsListenJudged, IsPollJudged, IsWriteJudged, IsKeptRightly, IsRunRightly, IsDeployJudged, is_done, rules_by, identity_by, IsJudged}
use Rattle.rtdb_laws.proofs.Deploying.{DeployJudged, deploy_for_memory, deploy_judged}
use Rattle.rtdb_laws.proofs.ListenJudging.{ListenJudged, listen_for_memory, listen_judged, PollJudged, poll_for_memory, poll_judged}
use Rattle.rtdb_model.proofs.Outcomes.{fine}
use Rattle.rtdb_laws.proofs.ReadJudging.{ReadJudged, read_for_memory, read_judged}
use Rattle.rtdb_laws.proofs.Stopping.{stopped_rightly, stop_for_memory, done_rightly, done_for_memory}
use Rattle.rtdb_laws.proofs.WriteJudging.{WriteJudged, write_for_memory, set_judged, update_judged}
use Rattle.rtdb_laws.proofs.Keeping.{KeptJudged, keep_for_memory, keep_one_judged, keep_update_judged}
use Rattle.rtdb_laws.proofs.Running.{RunJudged, run_for_memory, run_judged}

-- ---- laws of every step

pub refused_stays : (old new : State) (now session : ℕ) (event : Event) (refusal : Refusal) → Step old now session event (Refused refusal) new → new ≡ old
unfolding Step
refused_stays old new now session event refusal (inl h) = sym (ap (λ (o : Outcome). o.after) h) ∙ (fine old now session event).stays refusal (ap (λ (o : Outcome). o.reply) h)
refused_stays old new now session event refusal (inr h) = h.1

-- what takes no memory is not answered by want of it
pub answered : (old new : State) (now session : ℕ) (event : Event) (reply : Reply) → takes_no_memory old session event ≡ true → Step old now session event reply new → reply ≢ Refused NoMemory
unfolding Step
answered old new now session event reply none (inl h) = λ e. (fine old now session event).answers.0 (ap (λ (o : Outcome). o.reply) h ∙ e)
answered old new now session event reply none (inr h) = λ _. false≢true (sym h.2 ∙ none)

pub rules_are : (old new : State) (now session : ℕ) (event : Event) (reply : Reply) → Step old now session event reply new → new.rules ≡ cond (is_done reply) (rules_by event old.rules) old.rules
unfolding Step
rules_are old new now session event reply (inl h) =
    sym (ap (λ (o : Outcome). o.after.rules) h) ∙ (fine old now session event).rules ∙ ap (λ (o : Outcome). cond (is_done o.reply) (rules_by event old.rules) old.rules) h
rules_are old new now session event reply (inr h) =
    ap (λ (s : State). s.rules) h.1 ∙ ap (λ (r : Reply). cond (is_done r) (rules_by event old.rules) old.rules) (sym h.0)

pub identity_is : (old new : State) (now session : ℕ) (event : Event) (reply : Reply) → Step old now session event reply new → (other : ℕ) → identity_of new other ≡ cond (is_done reply && other == session) (identity_by event (identity_of old other)) (identity_of old other)
unfolding Step
identity_is old new now session event reply (inl h) other =
    sym (ap (λ (o : Outcome). identity_of o.after other) h) ∙ (fine old now session event).identities other ∙ ap (λ (o : Outcome). cond (is_done o.reply && other == session) (identity_by event (identity_of old other)) (identity_of old other)) h
identity_is old new now session event reply (inr h) other =
    ap (λ (s : State). identity_of s other) h.1 ∙ ap (λ (r : Reply). cond (is_done r && other == session) (identity_by event (identity_of old other)) (identity_of old other)) (sym h.0)

-- ---- every step is judged

-- a step that is no success and no refusal of the event wants memory
for_memory : (old new : State) (reply : Reply) → reply ≡ Refused NoMemory → new ≡ old → ◌≡◌ {A = Outcome} (refused old NoMemory) (record { reply = reply; after = new })
for_memory old new reply r n = λ i. record { reply = sym r i; after = sym n i }

stopped_by : (old new : State) (now session : ℕ) (event : Event) (reply : Reply) → Step old now session event reply new → IsStoppedRightly old session event reply
unfolding Step
stopped_by old new now session event reply (inl h) = subst (λ (o : Outcome). IsStoppedRightly old session event o.reply) h (stopped_rightly old now session event)
stopped_by old new now session event reply (inr h) = subst (IsStoppedRightly old session event) (sym h.0) (stop_for_memory old session event h.2)

done_by : (old new : State) (now session : ℕ) (event : Event) (left : State) (reply : Reply) → Leaves old now session event left → Step old now session event reply new → IsDoneRightly old session event left reply new
unfolding Step
done_by old new now session event left reply leaves (inl h) = subst (λ (o : Outcome). IsDoneRightly old session event left o.reply o.after) h (done_rightly old now session event left leaves)
done_by old new now session event left reply leaves (inr h) = subst (λ (o : Outcome). IsDoneRightly old session event left o.reply o.after) (for_memory old new reply h.0 h.1) (done_for_memory old session event left)

read_by : (old new : State) (now session : ℕ) (path : Path) (query : Option Query) (reply : Reply) → HasOneCapture old.rules → Step old now session (Get path query) reply new → IsReadJudged old now session path query reply new
unfolding Step
read_by old new now session path query reply one (inl h) = subst (ReadJudged old now session path query) h (read_judged old now session path query one)
read_by old new now session path query reply one (inr h) = subst (ReadJudged old now session path query) (for_memory old new reply h.0 h.1) (read_for_memory old now session path query)

listened_by : (old new : State) (now session : ℕ) (id : List ℕ) (path : Path) (query : Option Query) (reply : Reply) → HasOneCapture old.rules → Step old now session (Listen id path query) reply new → IsListenJudged old now session id path query reply new
unfolding Step
listened_by old new now session id path query reply one (inl h) = subst (ListenJudged old now session id path query) h (listen_judged old now session id path query one)
listened_by old new now session id path query reply one (inr h) = subst (ListenJudged old now session id path query) (for_memory old new reply h.0 h.1) (listen_for_memory old now session id path query)

polled_by : (old new : State) (now session : ℕ) (reply : Reply) → Step old now session Poll reply new → IsPollJudged old now session reply new
unfolding Step
polled_by old new now session reply (inl h) = subst (PollJudged old now session) h (poll_judged old now session)
polled_by old new now session reply (inr h) = subst (PollJudged old now session) (for_memory old new reply h.0 h.1) (poll_for_memory old now session)

-- where the outcome of an event is that its writes are judged, so is its step
step_judged : (old new : State) (now session : ℕ) (event : Event) (all : List Write) (reply : Reply) → WriteJudged old now session all (outcome old now session event) → Step old now session event reply new → IsWriteJudged old now session all reply new
unfolding Step
step_judged old new now session event all reply judged (inl h) = subst (WriteJudged old now session all) h judged
step_judged old new now session event all reply judged (inr h) = subst (WriteJudged old now session all) (for_memory old new reply h.0 h.1) (write_for_memory old now session all)

-- where the outcome of an event is that its writes are kept rightly, so is its step
step_kept : (old new : State) (now session : ℕ) (event : Event) (all : List Write) (reply : Reply) → KeptJudged old now session all (outcome old now session event) → Step old now session event reply new → IsKeptRightly old now session all reply new
unfolding Step
step_kept old new now session event all reply judged (inl h) = subst (KeptJudged old now session all) h judged
step_kept old new now session event all reply judged (inr h) = subst (KeptJudged old now session all) (for_memory old new reply h.0 h.1) (keep_for_memory old now session all)

ran_by : (old new : State) (now session : ℕ) (reply : Reply) → HasOneCapture old.rules → Step old now session RunNext reply new → IsRunRightly old now session reply new
unfolding Step
ran_by old new now session reply one (inl h) = subst (RunJudged old now session) h (run_judged old now session one)
ran_by old new now session reply one (inr h) = subst (RunJudged old now session) (for_memory old new reply h.0 h.1) (run_for_memory old now session)

deployed_by : (old new : State) (now session : ℕ) (rules : Book) (reply : Reply) → Step old now session (Deploy rules) reply new → IsDeployJudged old now session rules reply new
unfolding Step
deployed_by old new now session rules reply (inl h) = subst (DeployJudged old now session rules) h (deploy_judged old now session rules)
deployed_by old new now session rules reply (inr h) = subst (DeployJudged old now session rules) (for_memory old new reply h.0 h.1) (deploy_for_memory old now session rules h.2)

-- the writes that an event asks for are judged together
write_judged : (old : State) (now session : ℕ) (event : Event) (all : List Write) → HasOneCapture old.rules → AsksFor event all → WriteJudged old now session all (outcome old now session event)
write_judged old now session Open all one asks = absurd asks
write_judged old now session Close all one asks = absurd asks
write_judged old now session (SignIn who) all one asks = absurd asks
write_judged old now session SignOut all one asks = absurd asks
write_judged old now session (Listen id path query) all one asks = absurd asks
write_judged old now session (Unlisten id) all one asks = absurd asks
write_judged old now session Poll all one asks = absurd asks
write_judged old now session Tick all one asks = absurd asks
write_judged old now session (Deploy rules) all one asks = absurd asks
write_judged old now session (Get path query) all one asks = absurd asks
write_judged old now session (OnSet write) all one asks = absurd asks
write_judged old now session (OnRemove path) all one asks = absurd asks
write_judged old now session (OnUpdate writes) all one asks = absurd asks
write_judged old now session (OnCancel path) all one asks = absurd asks
write_judged old now session Leave all one asks = absurd asks
write_judged old now session RunNext all one asks = absurd asks
write_judged old now session (Set write) all one asks = subst (λ (ws : List Write). WriteJudged old now session ws (outcome old now session (Set write))) (sym asks) (set_judged old now session write one)
write_judged old now session (Remove path) all one asks = subst (λ (ws : List Write). WriteJudged old now session ws (outcome old now session (Remove path))) (sym asks) (set_judged old now session (removal path) one)
write_judged old now session (Update writes) all one asks = subst (λ (ws : List Write). WriteJudged old now session ws (outcome old now session (Update writes))) (sym asks) (update_judged old now session writes one)

-- the writes that an event establishes are judged together
kept_judged : (old : State) (now session : ℕ) (event : Event) (all : List Write) → HasOneCapture old.rules → KeepsFor event all → KeptJudged old now session all (outcome old now session event)
kept_judged old now session Open all one kept = absurd kept
kept_judged old now session Close all one kept = absurd kept
kept_judged old now session (SignIn who) all one kept = absurd kept
kept_judged old now session SignOut all one kept = absurd kept
kept_judged old now session (Get path query) all one kept = absurd kept
kept_judged old now session (Set write) all one kept = absurd kept
kept_judged old now session (Remove path) all one kept = absurd kept
kept_judged old now session (Update writes) all one kept = absurd kept
kept_judged old now session (Listen id path query) all one kept = absurd kept
kept_judged old now session (Unlisten id) all one kept = absurd kept
kept_judged old now session Poll all one kept = absurd kept
kept_judged old now session Tick all one kept = absurd kept
kept_judged old now session (Deploy rules) all one kept = absurd kept
kept_judged old now session (OnSet write) all one kept = subst (λ (ws : List Write). KeptJudged old now session ws (outcome old now session (OnSet write))) (sym kept) (keep_one_judged old now session write one)
kept_judged old now session (OnRemove path) all one kept = subst (λ (ws : List Write). KeptJudged old now session ws (outcome old now session (OnRemove path))) (sym kept) (keep_one_judged old now session (removal path) one)
kept_judged old now session (OnUpdate writes) all one kept = subst (λ (ws : List Write). KeptJudged old now session ws (outcome old now session (OnUpdate writes))) (sym kept) (keep_update_judged old now session writes one)
kept_judged old now session (OnCancel path) all one kept = absurd kept
kept_judged old now session Leave all one kept = absurd kept
kept_judged old now session RunNext all one kept = absurd kept

-- a step at an event that an equation gives
at_event : (old new : State) (call : Call) (reply : Reply) → Step old call.now call.session call.event reply new → (event : Event) → call.event ≡ event → Step old call.now call.session event reply new
at_event old new call reply s event is = subst (λ (e : Event). Step old call.now call.session e reply new) is s

pub judged : (old new : State) (call : Call) (reply : Reply) → HasOneCapture old.rules → Step old call.now call.session call.event reply new → IsJudged old call reply new
judged old new call reply one s = record {
  step = s;
  stopped = stopped_by old new call.now call.session call.event reply s;
  done = λ left leaves. done_by old new call.now call.session call.event left reply leaves s;
  read = λ path query is. read_by old new call.now call.session path query reply one (at_event old new call reply s _ is);
  listen = λ id path query is. listened_by old new call.now call.session id path query reply one (at_event old new call reply s _ is);
  poll = λ is. polled_by old new call.now call.session reply (at_event old new call reply s _ is);
  write = λ all asks. step_judged old new call.now call.session call.event all reply (write_judged old call.now call.session call.event all one asks) s;
  keep = λ all kept. step_kept old new call.now call.session call.event all reply (kept_judged old call.now call.session call.event all one kept) s;
  run = λ is. ran_by old new call.now call.session reply one (at_event old new call reply s _ is);
  deploy = λ rules is. deployed_by old new call.now call.session rules reply (at_event old new call reply s _ is);
  refused = λ refusal told. refused_stays old new call.now call.session call.event refusal (subst (λ (r : Reply). Step old call.now call.session call.event r new) told s);
  memory = λ none. answered old new call.now call.session call.event reply none s;
}
