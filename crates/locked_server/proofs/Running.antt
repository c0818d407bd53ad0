-- What the laws of runs say of histories.
use Rattle.std.proofs.Common.{◌≡◌, ◌<◌, ◌&&◌, ℕ, Bool, true, false, cond, List, [], ◌∷◌, ◌++◌, length, slice_index_or, refl, sym, ap, subst, ◌∙◌}
use Rattle.std.specs.Prelude.{All, map, filter}
use Rattle.tree_model.specs.Tree.{Tree, non_null}
use Rattle.rules_reader.specs.Book.{Book}
use Rattle.rtdb_model.specs.declared.event.Event.{Event}
use Rattle.rtdb_model.specs.declared.event.Event.TheVariants.{Poll}
use Rattle.rtdb_model.specs.declared.news.Notice.{Notice}
use Rattle.rtdb_model.specs.declared.reply.Reply.{Reply}
use Rattle.rtdb_model.specs.declared.reply.Reply.TheVariants.{News}
use Rattle.rtdb_model.specs.State.{State, opening, is_open, is_leaving, scene_at, listeners_of, actions_of}
use Rattle.rtdb_model.specs.Rejudged.{hears, selected_at}
use Rattle.rtdb_model.specs.Step.{Call, Run, Step}
use Rattle.rtdb_model.specs.Headline.{DeployFiles}
use Rattle.rtdb_model.specs.Marks.{Taken, steps_after, judges, grants, IsHistory}
use Rattle.rtdb_model.specs.Actions.{Established, is_waiting, established, waiting}
use Rattle.rtdb_model.specs.Ends.{IsEnd, handed_out}
use Rattle.rtdb_laws.specs.Subscriptions.{subscription_of, listened_to}
use Rattle.rtdb_laws.specs.Presence.{open_after, leaving_after}
use Rattle.rtdb_laws.specs.Stored.{stored}
use Rattle.rtdb_laws.specs.Effects.{changes, changing, effective, without_listeners}
use Rattle.rtdb_laws.proofs.Kept.{run_keeps, opening_keeps}
use Rattle.rtdb_laws.proofs.Polls.{polled}
use Rattle.rtdb_laws.proofs.Endings.{end_of_failed}
use Rattle.rtdb_laws.proofs.Acted.{run_acts, opening_acts, run_stays}
use Rattle.rtdb_laws.proofs.Listening.{listens_so}
use Rattle.rtdb_laws.proofs.Presence.{open_so, leaving_so}
use Rattle.rtdb_laws.proofs.Storing.{stored_so}
use Rattle.rtdb_laws.proofs.Silence.{opening_kept}
use Rattle.locked_server.specs.declared.entry.Entry.{Entry}
use Rattle.locked_server.specs.History.{call_of, reply_of, Leaves}
use Rattle.locked_server.proofs.Histories.{cut}

-- ---- what the entries are asked, and what they are answered

abbrev calls : List Entry → List Call
calls history = map call_of history

abbrev replies : List Entry → List Reply
replies history = map reply_of history

its_run : (before left : State) (history : List Entry) → Leaves before history left → Run before (calls history) (replies history) left
unfolding Leaves
its_run before left history run = run.0

-- ---- listeners

pub marks_so : (rules : Book) (tree : Tree) (history : List Entry) (left : State) → Leaves (opening rules tree) history left → (run : Run (opening rules tree) (calls history) (replies history) left) × ((session : ℕ) → All (λ l. IsHistory session l (steps_after [] (opening rules tree) (calls history) (replies history) left run)) (listeners_of left session))
marks_so rules tree history left leaves =
    let run = its_run (opening rules tree) left history leaves in
    (run, run_keeps [] (opening rules tree) (calls history) (replies history) left run (opening_keeps rules tree))

pub listened_so : (rules : Book) (tree : Tree) (history : List Entry) (left : State) → Leaves (opening rules tree) history left → (session : ℕ) → map subscription_of (listeners_of left session) ≡ listened_to session (calls history) (replies history)
listened_so rules tree history left leaves = listens_so rules tree (calls history) (replies history) left (its_run (opening rules tree) left history leaves)

pub polled_so : (rules : Book) (tree : Tree) (earlier later : List Entry) (e : Entry) (left : State) → Leaves (opening rules tree) (earlier ++ e ∷ later) left → e.event ≡ Poll → (notices : List Notice) → e.reply ≡ News notices → (before : State) × Leaves (opening rules tree) earlier before × (handed_out notices ≡ map (λ l. (l.id, non_null (selected_at before.tree l.path l.query))) (filter (λ l. l.marked && hears (scene_at before e.now e.session) l.path l.query) (listeners_of before e.session)))
polled_so rules tree earlier later e left leaves is notices news =
    let c = cut (opening rules tree) earlier later e left leaves in
    let step : Step c.0 e.now e.session Poll (News notices) c.2.0 =
    subst (λ (event : Event). Step c.0 e.now e.session event (News notices) c.2.0) is (subst (λ (reply : Reply). Step c.0 e.now e.session e.event reply c.2.0) news c.2.1) in
    (c.0, c.1, polled rules tree (calls earlier) (replies earlier) c.0 (its_run (opening rules tree) c.0 earlier c.1) e.now e.session notices c.2.0 step)

pub failed_so : (rules : Book) (tree : Tree) (earlier later : List Entry) (e : Entry) (left : State) → Leaves (opening rules tree) (earlier ++ e ∷ later) left → (before after : State) × Leaves (opening rules tree) earlier before × Leaves after later left × ((session : ℕ) → let t : Taken = record { old = before; call = call_of e; reply = reply_of e; new = after } in judges session t ≡ true → All (λ l. grants session l.path l.query t ≡ false → IsEnd session l.id t (calls later) (replies later)) (listeners_of before session))
failed_so rules tree earlier later e left leaves =
    let c = cut (opening rules tree) earlier later e left leaves in (
      c.0,
      c.2.0,
      c.1,
      c.2.3,
      λ session.
          end_of_failed rules tree (calls earlier) (calls later) (replies earlier) (replies later) (record { old = c.0; call = call_of e; reply = reply_of e; new = c.2.0 }) left session
          (its_run (opening rules tree) c.0 earlier c.1) c.2.1 (its_run c.2.0 left later c.2.3),
    )

-- ---- actions

pub waits_so : (rules : Book) (tree : Tree) (history : List Entry) (left : State) → Leaves (opening rules tree) history left → (run : Run (opening rules tree) (calls history) (replies history) left) × ((session : ℕ) → waiting (established session (steps_after [] (opening rules tree) (calls history) (replies history) left run)) ≡ actions_of left session)
waits_so rules tree history left leaves =
    let run = its_run (opening rules tree) left history leaves in
    (run, run_acts [] (opening rules tree) (calls history) (replies history) left run (opening_acts rules tree))

-- the state between two parts of a run
parted : (before left : State) (earlier later : List Entry) → Run before (calls (earlier ++ later)) (replies (earlier ++ later)) left → (middle : State) × Run before (calls earlier) (replies earlier) middle × Run middle (calls later) (replies later) left
parted before left [] later run = (before, refl, run)
parted before left (x ∷ xs) later run =
    let rest = parted run.0 left xs later run.2 in
    (rest.0, (run.0, run.1, rest.1), rest.2)

pub ended_so : (rules : Book) (tree : Tree) (earlier later : List Entry) (left : State) → Leaves (opening rules tree) (earlier ++ later) left → (middle : State) × (run : Run (opening rules tree) (calls earlier) (replies earlier) middle) × (rest : Run middle (calls later) (replies later) left) × ((session : ℕ) (i : ℕ) (d : Established) → let steps = steps_after [] (opening rules tree) (calls earlier) (replies earlier) middle run in i < length (established session steps) → is_waiting (slice_index_or (established session steps) i d).fate ≡ false → slice_index_or (established session (steps_after steps middle (calls later) (replies later) left rest)) i d ≡ slice_index_or (established session steps) i d)
ended_so rules tree earlier later left leaves =
    let parts = parted (opening rules tree) left earlier later (its_run (opening rules tree) left (earlier ++ later) leaves) in
    (parts.0, parts.1, parts.2, λ session. run_stays session (steps_after [] (opening rules tree) (calls earlier) (replies earlier) parts.0 parts.1) parts.0 (calls later) (replies later) left parts.2)

-- ---- presence

pub opened_so : (before left : State) (history : List Entry) → Leaves before history left → (session : ℕ) → is_open left session ≡ open_after session (is_open before session) (calls history) (replies history)
opened_so before left history leaves = open_so before left (calls history) (replies history) (its_run before left history leaves)

pub left_so : (before left : State) (history : List Entry) → Leaves before history left → (session : ℕ) → is_leaving left session ≡ leaving_after session (is_leaving before session) (calls history) (replies history)
left_so before left history leaves = leaving_so before left (calls history) (replies history) (its_run before left history leaves)

-- ---- what is stored

pub written_so : (rules : Book) (tree : Tree) (history : List Entry) (left : State) → Leaves (opening rules tree) history left → (run : Run (opening rules tree) (calls history) (replies history) left) × (left.tree ≡ stored tree (steps_after [] (opening rules tree) (calls history) (replies history) left run))
written_so rules tree history left leaves =
    let run = its_run (opening rules tree) left history leaves in
    (run, stored_so rules tree (calls history) (replies history) left run)

-- ---- what changes something

abbrev effects : List Entry → List Entry
effects history = filter (λ (e : Entry). changes e.event e.reply) history

their_calls : (history : List Entry) → calls (effects history) ≡ changing (calls history) (replies history)
their_calls [] = refl
their_calls (e ∷ es) = outside (changes e.event e.reply) ∙ ap (λ (cs : List Call). cond (changes e.event e.reply) (call_of e ∷ cs) cs) (their_calls es)
  where
    outside : (b : Bool) → calls (cond b (e ∷ effects es) (effects es)) ≡ cond b (call_of e ∷ calls (effects es)) (calls (effects es))
    outside true = refl
    outside false = refl

their_replies : (history : List Entry) → replies (effects history) ≡ effective (calls history) (replies history)
their_replies [] = refl
their_replies (e ∷ es) = outside (changes e.event e.reply) ∙ ap (λ (rs : List Reply). cond (changes e.event e.reply) (reply_of e ∷ rs) rs) (their_replies es)
  where
    outside : (b : Bool) → replies (cond b (e ∷ effects es) (effects es)) ≡ cond b (reply_of e ∷ replies (effects es)) (replies (effects es))
    outside true = refl
    outside false = refl

-- what some of the entries deploy are files, where all are
files_still : (history : List Entry) → DeployFiles (calls history) → DeployFiles (calls (effects history))
files_still [] files = tt
files_still (e ∷ es) files = by_test (changes e.event e.reply) (files_still es files.1)
  where
    by_test : (b : Bool) → DeployFiles (calls (effects es)) → DeployFiles (calls (cond b (e ∷ effects es) (effects es)))
    by_test true rest = (files.0, rest)
    by_test false rest = rest

pub effects_so : (rules : Book) (tree : Tree) (history : List Entry) (left : State) → Leaves (opening rules tree) history left → Leaves (opening rules tree) (effects history) (without_listeners left)
unfolding Leaves
effects_so rules tree history left leaves = (
  subst (λ (cs : List Call). Run (opening rules tree) cs (replies (effects history)) (without_listeners left)) (sym (their_calls history))
      (subst (λ (rs : List Reply). Run (opening rules tree) (changing (calls history) (replies history)) rs (without_listeners left)) (sym (their_replies history))
      (opening_kept rules tree (calls history) (replies history) left leaves.0)),
  files_still history leaves.1,
)
