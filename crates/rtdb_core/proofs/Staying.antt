-- A listener that stays as it is, since what its read depends on has not changed.
use Rattle.std.proofs.Common.{◌≡◌, ℕ, true, not, ◌&&◌, List, [], ◌∷◌, map, Option, Some, None, sym, ap, ◌∙◌, subst, refl}
use Rattle.std.specs.Prelude.{All, option_and_then, slice_get}
use Rattle.std.specs.List.{AllByRecursion}
use Rattle.std.specs.Ordering.{nat_cmp}
use Rattle.std.specs.BTreeMap.{is_at}
use Rattle.std.specs.Map.{lookup}
use Rattle.std.proofs.lemmas.List.Elements.{All-get_or, All-head, All-tail}
use Rattle.std.proofs.lemmas.Option.{slice_get_within, get_or_from_slice_get}
use Rattle.tree_model.specs.Path.{Path}
use Rattle.tree_model.specs.PathMap.{sub}
use Rattle.tree_model.specs.Tree.{Tree}
use Rattle.tree_model.proofs.Lookups.{sub-sub}
use Rattle.evaluator.specs.Identity.{Identity}
use Rattle.rules_reader.specs.Book.{Book}
use Rattle.rules_reader.specs.declared.kind.Kind.TheVariants.{Read}
use Rattle.judge.specs.Question.{reading}
use Rattle.judge.proofs.Verdicts.{grants_decided}
use Rattle.judge.proofs.Looking.{left_below}
use Rattle.judge.proofs.Depending.{may_read_same}
use Rattle.listeners.specs.Query.{Query}
use Rattle.listeners.specs.Table.{Listener}
use Rattle.rtdb_model.specs.State.{Session, listeners_in}
use Rattle.rtdb_model.specs.Rejudged.{asked_for, hears}
use Rattle.rtdb_core.specs.Working.Fates.{scene_by, fate_by, fate_of}
use Rattle.rtdb_core.specs.Working.Heard.{IsHeard, AreHeard, AllHeardIn, IsAsBefore}
use Rattle.rtdb_core.proofs.Passing.{stays}
use Rattle.rtdb_core.proofs.Sessions.{sessions_of, at}

-- ---- one listener

hears_still : (rules : Book) (old new : Tree) (then now : ℕ) (who : Option Identity) (path : Path) (query : Option Query) → IsAsBefore rules old new path → hears (scene_by rules old then who) path query ≡ true → hears (scene_by rules new now who) path query ≡ true
unfolding hears
hears_still rules old new then now who path query before h =
    (grants_decided (reading (scene_by rules new now who) (asked_for query)) Read path).1
    (may_read_same (scene_by rules old then who) (scene_by rules new now who) (asked_for query) path before.place refl refl before.same before.watched
    ((grants_decided (reading (scene_by rules old then who) (asked_for query)) Read path).0 h))

same_there : (rules : Book) (old new : Tree) (path : Path) → IsAsBefore rules old new path → sub new path ≡ sub old path
same_there rules old new path before =
    let left = left_below before.place path before.watched.above in
    ap (sub new) left.1 ∙ sym (sub-sub new before.place left.0) ∙ ap (λ t. sub t left.0) before.same ∙ sub-sub old before.place left.0 ∙ ap (sub old) (sym left.1)

pub fate_stays : (rules : Book) (old new : Tree) (now : ℕ) (who : Option Identity) (l : Listener) → l.live ≡ true → IsHeard rules old who l → IsAsBefore rules old new l.path → None ≡ fate_of old rules new now who l
fate_stays rules old new now who l live heard before =
    let was = heard live in
    sym (λ i. fate_by (live i) (hears_still rules old new was.0 now who l.path l.query before was.1 i) (stays old new l.path l.query (same_there rules old new l.path before) i && not l.marked))

-- ---- all listeners of a session

pub heard_at : (rules : Book) (tree : Tree) (who : Option Identity) (ls : List Listener) (i : ℕ) (l : Listener) → AreHeard rules tree who ls → slice_get ls i ≡ Some l → IsHeard rules tree who l
heard_at rules tree who ls i l heard at_i = subst (IsHeard rules tree who) (get_or_from_slice_get ls i l l at_i) (All-get_or (IsHeard rules tree who) ls i l (slice_get_within ls i l at_i) heard)

-- ---- all sessions

-- what a session listens to was granted to who is signed in on it
abbrev pub SessionIsHeard : Book → Tree → Session → Type 0
SessionIsHeard rules tree one = AreHeard rules tree one.identity one.listeners

-- of sessions that are found at their numbers
pub each_heard : (rules : Book) (tree : Tree) (all es : List (ℕ × Session)) → AllHeardIn rules tree (sessions_of all) → All (λ e. lookup (is_at (nat_cmp e.0)) all ≡ Some e.1) es → AllByRecursion (SessionIsHeard rules tree) (map (λ e. e.1) es)
each_heard rules tree all [] heard found = tt
each_heard rules tree all (e ∷ es) heard found = (here, each_heard rules tree all es heard (All-tail (λ (f : ℕ × Session). lookup (is_at (nat_cmp f.0)) all ≡ Some f.1) e es found))
  where
    here : SessionIsHeard rules tree e.1
    here = subst (λ (o : Option Session). AreHeard rules tree (option_and_then (λ (one : Session). one.identity) o) (listeners_in o)) (at all e.0 ∙ All-head (λ (f : ℕ × Session). lookup (is_at (nat_cmp f.0)) all ≡ Some f.1) e es found) (heard e.0)

pub next_heard : (rules : Book) (tree : Tree) (left rest : List Session) (one : Session) → left ≡ one ∷ rest → AllByRecursion (SessionIsHeard rules tree) left → SessionIsHeard rules tree one × AllByRecursion (SessionIsHeard rules tree) rest
next_heard rules tree left rest one first heard = subst (AllByRecursion (SessionIsHeard rules tree)) first heard
