-- In what is replayed no session listens to anything.
use Rattle.std.proofs.Common.{◌≡◌, ◌∙◌, ℕ, Bool, true, false, cond, eqb, List, [], ◌∷◌, ◌++◌, Option, Some, None, option_map, subst, sym, ap, refl}
use Rattle.std.specs.Prelude.{⊤}
use Rattle.std.specs.FinMap as map_of
use Rattle.std.specs.Ordering.{nat_cmp}
use Rattle.std.specs.Cmp.{nat_cmp_total}
use Rattle.tree_model.specs.Tree.{Tree}
use Rattle.rules_reader.specs.Book.{Book}
use Rattle.rtdb_model.specs.declared.event.Event.{Event}
use Rattle.rtdb_model.specs.declared.reply.Reply.{Reply}
use Rattle.rtdb_model.specs.State.{Action, Session, Sessions, State, opening, session_or_fresh, session_in, actions_of}
use Rattle.rtdb_model.specs.Step.{Call, Step, Run, action_of, with_actions}
use Rattle.rtdb_model.proofs.Slots.{put_at, get-put_at, get-each}
use Rattle.rtdb_laws.specs.Effects.{changes, unlistening, without_listeners}
use Rattle.rtdb_laws.proofs.Silence.{run_kept}
use Rattle.rtdb_core.specs.Resumed.{going_on}
use Rattle.entries.specs.Entry.{Meaning, rules, tree, begin, session, action, call}
use Rattle.store.specs.Replay.{Stage, empty, reading, opened, Follows, Replays, LeadTo}
use Rattle.store.proofs.Replays.{one_step}

same_state : (stored : Tree) (book : Book) (m n : Sessions) → ((q : ℕ) → map_of.get m q ≡ map_of.get n q) → ◌≡◌ {A = State} (record { tree = stored; rules = book; sessions = m }) (record { tree = stored; rules = book; sessions = n })
same_state stored book m n same = ap (λ (ms : Sessions). record { tree = stored; rules = book; sessions = ms }) (map_of.same_map nat_cmp_total map_of.nat_cmp-IsAntisymmetric m n same)

get-silent : (s : State) (q : ℕ) → map_of.get (without_listeners s).sessions q ≡ option_map unlistening (map_of.get s.sessions q)
get-silent s q = get-each unlistening s.sessions q

silent-put : (s : State) (n : ℕ) (one : Session) → without_listeners (put_at s n one) ≡ put_at (without_listeners s) n (unlistening one)
silent-put s n one = same_state s.tree s.rules _ _ (λ q.
    get-silent (put_at s n one) q
    ∙ ap (option_map unlistening) (get-put_at s n one q)
    ∙ inside q (eqb q n)
    ∙ sym (get-put_at (without_listeners s) n (unlistening one) q))
  where
    inside : (q : ℕ) (b : Bool) → option_map unlistening (cond b (Some one) (map_of.get s.sessions q)) ≡ cond b (Some (unlistening one)) (map_of.get (without_listeners s).sessions q)
    inside q true = refl
    inside q false = sym (get-silent s q)

session-silent : (s : State) (q : ℕ) → session_in (without_listeners s) q ≡ unlistening (session_in s q)
session-silent s q = ap session_or_fresh (get-silent s q) ∙ inside (map_of.get s.sessions q)
  where
    inside : (o : Option Session) → session_or_fresh (option_map unlistening o) ≡ unlistening (session_or_fresh o)
    inside None = refl
    inside (Some one) = refl

silent-opening : (book : Book) (stored : Tree) → without_listeners (opening book stored) ≡ opening book stored
silent-opening book stored = same_state stored book _ _ (λ q. get-silent (opening book stored) q ∙ ap (option_map unlistening) (none q) ∙ sym (none q))
  where
    none : (q : ℕ) → map_of.get (opening book stored).sessions q ≡ None
    none q = map_of.get-empty nat_cmp q

-- ---- one entry

IsSilent : State → Type 0
IsSilent s = s ≡ without_listeners s

put_silent : (s : State) (n : ℕ) (one : Session) → IsSilent s → one ≡ unlistening one → IsSilent (put_at s n one)
unfolding IsSilent
put_silent s n one silent same = (λ i. put_at (silent i) n (same i)) ∙ sym (silent-put s n one)

action_silent : (s : State) (n : ℕ) (actions : List Action) → IsSilent s → IsSilent (with_actions s n actions)
unfolding IsSilent
action_silent s n actions silent =
    put_silent s n (record (session_in s n) { actions = actions }) silent
    (ap (λ (one : Session). record one { actions = actions }) (ap (λ (t : State). session_in t n) silent ∙ session-silent s n))

step_silent : (s left : State) (now n : ℕ) (event : Event) (reply : Reply) → Step s now n event reply left → changes event reply ≡ true → IsSilent s → IsSilent left
unfolding IsSilent
step_silent s left now n event reply step changed silent =
    let made : Call = record { now = now; session = n; event = event } in
    let kept = run_kept s left (made ∷ []) (reply ∷ []) (left, step, refl) in
    let again : Run (without_listeners s) (made ∷ []) (reply ∷ []) (without_listeners left) =
    subst (λ (b : Bool). Run (without_listeners s) (cond b (made ∷ []) []) (cond b (reply ∷ []) []) (without_listeners left)) changed kept in
    let twin : Step s now n event reply (without_listeners left) = subst (λ (t : State). Step t now n event reply (without_listeners left)) (sym silent) (subst (λ (t : State). Step (without_listeners s) now n event reply t) (sym again.2) again.1) in
    (one_step s left (without_listeners left) now n event reply reply step twin changed changed).1

IsQuiet : Stage → Type 0
IsQuiet empty = ⊤
IsQuiet (reading text json) = ⊤
IsQuiet (opened text state) = IsSilent state

follows_quiet : (meaning : Meaning) (before after : Stage) → Follows meaning before after → IsQuiet before → IsQuiet after
unfolding IsQuiet IsSilent
follows_quiet (rules text) before after follows quiet = subst IsQuiet (sym follows.is_after) tt
follows_quiet (tree piece) before after follows quiet = subst IsQuiet (sym follows.is_after) tt
follows_quiet begin before after follows quiet = subst IsQuiet (sym follows.is_after) (sym (silent-opening follows.book follows.stored))
follows_quiet (session number leaving who) before after follows quiet =
    subst IsQuiet (sym follows.is_after) (put_silent follows.state number (going_on who leaving) (subst IsQuiet follows.is_before quiet) refl)
follows_quiet (action number writes) before after follows quiet =
    subst IsQuiet (sym follows.is_after) (action_silent follows.state number (actions_of follows.state number ++ action_of writes ∷ []) (subst IsQuiet follows.is_before quiet))
follows_quiet (call made deployed) before after follows quiet =
    subst IsQuiet (sym follows.is_after) (step_silent follows.state follows.left made.now made.session made.event follows.reply follows.step follows.effective (subst IsQuiet follows.is_before quiet))

replays_quiet : (entries : List (List ℕ)) (before after : Stage) → Replays entries before after → IsQuiet before → IsQuiet after
replays_quiet [] before after replayed quiet = subst IsQuiet (sym replayed) quiet
replays_quiet (entry ∷ entries) before after replayed quiet = replays_quiet entries replayed.1 after replayed.4 (follows_quiet replayed.0 before replayed.1 replayed.3 quiet)

pub lead_silent : (entries : List (List ℕ)) (text : List ℕ) (state : State) → LeadTo entries text state → state ≡ without_listeners state
unfolding IsQuiet IsSilent
lead_silent entries text state lead = replays_quiet entries empty (opened text state) lead tt
