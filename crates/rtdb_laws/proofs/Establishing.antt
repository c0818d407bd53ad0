-- What is established, and what lies below a path.
use Rattle.std.proofs.Common.{◌≡◌, ◌↔◌, ◌&&◌, ◌||◌, ℕ, Bool, true, false, not, cond, leb, T, List, [], ◌∷◌, ◌++◌, map, length, Option, Some, None, inl, inr, refl, sym, ap, subst, ◌∙◌, append-nil, arith}
use Rattle.std.proofs.lemmas.Bool.{false≢true, eq-eqb, or_parts, and_from}
use Rattle.std.proofs.lemmas.List.{map-append}
use Rattle.std.proofs.lemmas.List.Elements.{All-nil, All-cons, All-head, All-tail}
use Rattle.std.proofs.lemmas.List.Kept.{AllPairs-cons}
use Rattle.std.specs.Prelude.{◌==◌, All, AllPairs}
use Rattle.std.specs.List.{list_any, list_all}
use Rattle.std.specs.FinMap as map_of
use Rattle.std.specs.FinMap.{put, find, is_sorted}
use Rattle.std.specs.FinMap.Entries.{below_all}
use Rattle.std.specs.Ordering.{is_lt, is_eq, eq_by_cmp, ordering_reverse}
use Rattle.std.specs.Cmp.{first_so, second_so, tied_itself, Equal-is}
use Rattle.std.specs.declared.cmp.Ordering.{Ordering}
use Rattle.std.specs.declared.cmp.Ordering.TheVariants.{Less, Equal, Greater}
use Rattle.tree_model.specs.Path.{Path, path_cmp, is_prefix}
use Rattle.tree_model.specs.Put.{location, do_overlap, overlaps}
use Rattle.tree_model.specs.Draft.{Draft}
use Rattle.tree_model.specs.Write.{Write}
use Rattle.tree_model.proofs.Orders.{paths_total, exact_paths}
use Rattle.tree_model.proofs.Paths.{prefix-append}
use Rattle.tree_model.proofs.Merging.{prefix_is}
use Rattle.judge.proofs.Among.{IsOf, of_contained, contained}
use Rattle.rtdb_model.specs.declared.limits.TheConstants.{MAX_ACTIONS}
use Rattle.rtdb_model.specs.declared.event.Event.{Event}
use Rattle.rtdb_model.specs.declared.event.Event.TheVariants.{OnSet, OnRemove, OnUpdate}
use Rattle.rtdb_model.specs.declared.reply.Refusal.{Refusal}
use Rattle.rtdb_model.specs.declared.reply.Refusal.TheVariants.{NoSession, EmptyUpdate, Overlap, Leaving, TooManyActions, NoMemory}
use Rattle.rtdb_model.specs.declared.reply.Reply.TheVariants.{Done, Refused}
use Rattle.rtdb_model.specs.State.{Action, State, session_in, is_open, is_leaving, actions_of}
use Rattle.rtdb_model.specs.Step.{Outcome, refused, unless_refused, denial, verdict_on, removal, action_of, writes_of, with_action, keeps, is_below, wants_presence, outcome, Step}
use Rattle.rtdb_model.proofs.Slots.{actions-put_at}
use Rattle.rtdb_laws.specs.Writes.{HasWrites}

-- ---- below a path

abbrev IsMore : Path → Write → Type 0
IsMore path write = (more : Path) × (location write ≡ path ++ more)

below_all_more : (path : Path) (ws : List Write) → list_all (is_prefix path) (map (λ e. e.0) ws) ≡ true → All (IsMore path) ws
below_all_more path [] h = All-nil (IsMore path)
below_all_more path (w ∷ ws) h =
    All-cons (IsMore path) w ws
    (prefix_is path (location w) (first_so (is_prefix path w.0) (list_all (is_prefix path) (map (λ e. e.0) ws)) h))
    (below_all_more path ws (second_so (is_prefix path w.0) (list_all (is_prefix path) (map (λ e. e.0) ws)) h))

more_all_below : (path : Path) (ws : List Write) → All (IsMore path) ws → list_all (is_prefix path) (map (λ e. e.0) ws) ≡ true
more_all_below path [] all = refl
more_all_below path (w ∷ ws) all =
    let first = All-head (IsMore path) w ws all in
    and_from (is_prefix path w.0) (list_all (is_prefix path) (map (λ e. e.0) ws))
    (ap (is_prefix path) first.1 ∙ prefix-append path first.0)
    (more_all_below path ws (All-tail (IsMore path) w ws all))

pub below_decides : (path : Path) (action : Action) → (is_below path action ≡ true) ↔ All (λ write. (more : Path) × (location write ≡ path ++ more)) (writes_of action)
below_decides path action = (below_all_more path (writes_of action), more_all_below path (writes_of action))

-- ---- the writes of an action

abbrev Pairs : Type 0
Pairs = List (Path × Draft)

from_T : (b : Bool) → T b → b ≡ true
from_T true h = refl
from_T false h = absurd h

none_of_length : (es : Pairs) → length es ≡ 0 → es ≡ []
none_of_length [] h = refl
none_of_length (e ∷ es) h = absurd (omega arith)

empty_entries : map_of.entries (map_of.empty {X = Draft} {R = path_cmp}) ≡ []
empty_entries = none_of_length _ (sym (map_of.len-entries (map_of.empty {X = Draft} {R = path_cmp})) ∙ map_of.len-empty path_cmp Draft)

pub writes_of_one : (write : Write) → writes_of (action_of (write ∷ [])) ≡ write ∷ []
writes_of_one write = map_of.entries-insert paths_total map_of.empty write.0 write.1 ∙ ap (put path_cmp write.0 write.1) empty_entries

-- no two of them stand at one path
abbrev AreApart : Pairs → Type 0
AreApart [] = Unit {0}
AreApart (e ∷ es) = ((f : Path × Draft) → IsOf f es → eq_by_cmp path_cmp f.0 e.0 ≡ false) × AreApart es

tied_path : (p q : Path) → eq_by_cmp path_cmp p q ≡ true → p ≡ q
tied_path p q h = exact_paths p q ((Equal-is (path_cmp p q)).0 h)

its_own : (p : Path) → eq_by_cmp path_cmp p p ≡ true
its_own p = ap is_eq (tied_itself paths_total p)

not_tied : (b : Bool) → (b ≡ true → ⊥) → b ≡ false
not_tied true h = absurd (h refl)
not_tied false h = refl

-- what is found at a path is among them
of_found : (es : Pairs) (e : Path × Draft) → find path_cmp e.0 es ≡ Some e.1 → IsOf e es
of_found [] e h = let none : None ≡ Some e.1 = h in absurd (never none)
  where
    never : None ≡ Some e.1 → ⊥
    never f = cc
of_found (x ∷ xs) e h = by_tie (eq_by_cmp path_cmp e.0 x.0) refl h (of_found xs e)
  where
    one_value : (a b : Draft) → Some a ≡ Some b → a ≡ b
    one_value a b f = cc

    by_tie : (b : Bool) → eq_by_cmp path_cmp e.0 x.0 ≡ b → cond b (Some x.1) (find path_cmp e.0 xs) ≡ Some e.1 → (find path_cmp e.0 xs ≡ Some e.1 → IsOf e xs) → IsOf e (x ∷ xs)
    by_tie true tie g rest =
        let path : x.0 ≡ e.0 = sym (tied_path e.0 x.0 tie) in
        let draft : x.1 ≡ e.1 = one_value x.1 e.1 g in
        inl (λ i. (path i, draft i))
    by_tie false tie g rest = inr (rest g)

-- and what is among them is found, where they are apart
found_of : (es : Pairs) (e : Path × Draft) → AreApart es → IsOf e es → find path_cmp e.0 es ≡ Some e.1
found_of [] e apart i = absurd i
found_of (x ∷ xs) e apart (inl same) =
    ap (λ (b : Bool). cond b (Some x.1) (find path_cmp e.0 xs)) (ap (λ (f : Path × Draft). eq_by_cmp path_cmp e.0 f.0) same ∙ its_own e.0)
    ∙ ap (λ (f : Path × Draft). Some f.1) same
found_of (x ∷ xs) e apart (inr i) =
    ap (λ (b : Bool). cond b (Some x.1) (find path_cmp e.0 xs)) (apart.0 e i)
    ∙ found_of xs e apart.1 i

-- writes that do not overlap are apart
apart_writes : (ws : Pairs) → overlaps ws ≡ false → AreApart ws
apart_writes [] h = tt
apart_writes (w ∷ ws) h =
    let parts = or_parts (list_any (do_overlap w) ws) (overlaps ws) h in
    ((λ f i. not_tied (eq_by_cmp path_cmp f.0 w.0) (λ tie. clash ws f i parts.0 (tied_path f.0 w.0 tie))), apart_writes ws parts.1)
  where
    itself : (f : Path × Draft) → f.0 ≡ w.0 → do_overlap w f ≡ true
    itself f same =
        ap (λ (p : Path). is_prefix w.0 p || is_prefix p w.0) same
        ∙ ap (λ (b : Bool). b || is_prefix w.0 w.0) (itself_prefix w.0)
      where
        itself_prefix : (p : Path) → is_prefix p p ≡ true
        itself_prefix p = ap (is_prefix p) (sym (append-nil p)) ∙ prefix-append p []

    clash : (xs : Pairs) (f : Path × Draft) → IsOf f xs → list_any (do_overlap w) xs ≡ false → f.0 ≡ w.0 → ⊥
    clash [] f i none same = absurd i
    clash (x ∷ xs) f (inl is) none same =
        let first = (or_parts (do_overlap w x) (list_any (do_overlap w) xs) none).0 in
        false≢true (sym first ∙ ap (do_overlap w) is ∙ itself f same)
    clash (x ∷ xs) f (inr i) none same = clash xs f i (or_parts (do_overlap w x) (list_any (do_overlap w) xs) none).1 same

less_is : (r : Ordering) → is_lt r ≡ true → r ≡ Less
less_is Less h = refl
less_is Equal h = absurd (false≢true h)
less_is Greater h = absurd (false≢true h)

abbrev IsBefore : Path × Draft → Path × Draft → Type 0
IsBefore one other = path_cmp (location one) (location other) ≡ Less

before_all : (e : Path × Draft) (es : Pairs) → below_all path_cmp e.0 es ≡ true → All (IsBefore e) es
before_all e [] h = All-nil (IsBefore e)
before_all e (x ∷ xs) h =
    All-cons (IsBefore e) x xs
    (less_is (path_cmp e.0 x.0) (first_so (is_lt (path_cmp e.0 x.0)) (below_all path_cmp e.0 xs) h))
    (before_all e xs (second_so (is_lt (path_cmp e.0 x.0)) (below_all path_cmp e.0 xs) h))

ascend : (es : Pairs) → is_sorted path_cmp es ≡ true → AllPairs IsBefore es
ascend [] h = λ i j d lt within. absurd (omega arith)
ascend (e ∷ es) h =
    AllPairs-cons IsBefore e es
    (before_all e es (first_so (below_all path_cmp e.0 es) (is_sorted path_cmp es) h))
    (ascend es (second_so (below_all path_cmp e.0 es) (is_sorted path_cmp es) h))

apart_sorted : (es : Pairs) → is_sorted path_cmp es ≡ true → AreApart es
apart_sorted [] h = tt
apart_sorted (e ∷ es) h =
    ((λ f i. behind f (at_of es f i (before_all e es (first_so (below_all path_cmp e.0 es) (is_sorted path_cmp es) h)))), apart_sorted es (second_so (below_all path_cmp e.0 es) (is_sorted path_cmp es) h))
  where
    at_of : (xs : Pairs) (f : Path × Draft) → IsOf f xs → All (IsBefore e) xs → IsBefore e f
    at_of [] f i all = absurd i
    at_of (x ∷ xs) f (inl is) all = subst (IsBefore e) is (All-head (IsBefore e) x xs all)
    at_of (x ∷ xs) f (inr i) all = at_of xs f i (All-tail (IsBefore e) x xs all)

    behind : (f : Path × Draft) → IsBefore e f → eq_by_cmp path_cmp f.0 e.0 ≡ false
    behind f less = ap is_eq (paths_total.antisymm f.0 e.0 ∙ ap ordering_reverse less)

pub has_writes : (ws : List Write) → overlaps ws ≡ false → HasWrites (action_of ws) ws
has_writes ws apart = record {
  each = λ write. (
    λ h. contained ws write (of_found ws write (sym (same write.0) ∙ found_of listed write (apart_sorted listed sorted) (of_contained listed write h))),
    λ h. contained listed write (of_found listed write (same write.0 ∙ found_of ws write (apart_writes ws apart) (of_contained ws write h))),
  );
  ascending = ascend listed sorted;
}
  where
    listed : Pairs
    listed = writes_of (action_of ws)

    sorted : is_sorted path_cmp listed ≡ true
    sorted = from_T _ (map_of.entries_sorted (action_of ws))

    same : (p : Path) → find path_cmp p listed ≡ find path_cmp p ws
    same p = sym (map_of.get-entries (action_of ws) p) ∙ map_of.get-from_entries paths_total ws p

-- ---- what is established

module _ (old : State) (now n : ℕ) (new : State) (ws : List Write) where
  -- an outcome that is this step establishes the writes, if they are not held to overlap
  abbrev Establishes : Outcome → Type 0
  Establishes o = o ≡ record { reply = Done; after = new } → new ≡ with_action old n ws

  abbrev EstablishesApart : Outcome → Type 0
  EstablishesApart o = o ≡ record { reply = Done; after = new } → (overlaps ws ≡ false) × (new ≡ with_action old n ws)

  not_done : {A : Type 0} (refusal : Refusal) → ◌≡◌ {A = Outcome} (refused old refusal) (record { reply = Done; after = new }) → A
  not_done refusal e = absurd (never (ap (λ (o : Outcome). o.reply) e))
    where
      never : Refused refusal ≡ Done → ⊥
      never f = cc

  test_establishes : (b : Bool) (refusal : Refusal) (o : Outcome) → Establishes o → Establishes (cond b (refused old refusal) o)
  test_establishes true refusal o h e = not_done refusal e
  test_establishes false refusal o h e = h e

  unless_establishes : (r : Option Refusal) (o : Outcome) → Establishes o → Establishes (unless_refused old r o)
  unless_establishes None o h e = h e
  unless_establishes (Some refusal) o h e = not_done refusal e

  test_apart : (b : Bool) (refusal : Refusal) (o : Outcome) → (b ≡ false → EstablishesApart o) → EstablishesApart (cond b (refused old refusal) o)
  test_apart true refusal o h e = not_done refusal e
  test_apart false refusal o h e = h refl e

  keep_establishes : Establishes (keeps old now n ws)
  keep_establishes =
      test_establishes (leb MAX_ACTIONS (length (actions_of old n))) TooManyActions _
      (unless_establishes (denial (verdict_on old now n ws)) _ (λ e. sym (ap (λ (o : Outcome). o.after) e)))

  -- the last action of the session, behind those that it had
  behind_all : new ≡ with_action old n ws → actions_of new n ≡ actions_of old n ++ action_of ws ∷ []
  behind_all is =
      ap (λ (s : State). actions_of s n) is
      ∙ actions-put_at old n (record (session_in old n) { actions = actions_of old n ++ action_of ws ∷ [] }) n
      ∙ ap (λ (b : Bool). cond b (actions_of old n ++ action_of ws ∷ []) (actions_of old n)) (eq-eqb n n refl)

-- what is established of one write
one_behind : (old : State) (n : ℕ) (new : State) (write : Write) → actions_of new n ≡ actions_of old n ++ action_of (write ∷ []) ∷ [] → map writes_of (actions_of new n) ≡ map writes_of (actions_of old n) ++ (write ∷ []) ∷ []
one_behind old n new write is =
    ap (map writes_of) is
    ∙ map-append writes_of (actions_of old n) (action_of (write ∷ []) ∷ [])
    ∙ ap (λ (ws : List Write). map writes_of (actions_of old n) ++ ws ∷ []) (writes_of_one write)

done_is_no_want : {A : Type 0} → Done ≡ Refused NoMemory → A
done_is_no_want e = absurd (never e)
  where
    never : Done ≡ Refused NoMemory → ⊥
    never f = cc

one_kept : (old new : State) (now n : ℕ) (event : Event) (write : Write) → outcome old now n event ≡ cond (wants_presence event && is_leaving old n) (refused old Leaving) (cond (not (is_open old n)) (refused old NoSession) (keeps old now n (write ∷ []))) → Step old now n event Done new → map writes_of (actions_of new n) ≡ map writes_of (actions_of old n) ++ (write ∷ []) ∷ []
unfolding Step
one_kept old new now n event write is (inl h) =
    one_behind old n new write (behind_all old now n new (write ∷ [])
    (test_establishes old now n new (write ∷ []) (wants_presence event && is_leaving old n) Leaving _
    (test_establishes old now n new (write ∷ []) (not (is_open old n)) NoSession _
    (keep_establishes old now n new (write ∷ [])))
    (sym is ∙ h)))
one_kept old new now n event write is (inr h) = done_is_no_want h.0

pub set_kept : (old new : State) (now n : ℕ) (write : Write) → Step old now n (OnSet write) Done new → map writes_of (actions_of new n) ≡ map writes_of (actions_of old n) ++ (write ∷ []) ∷ []
set_kept old new now n write step = one_kept old new now n (OnSet write) write refl step

pub remove_kept : (old new : State) (now n : ℕ) (path : Path) → Step old now n (OnRemove path) Done new → map writes_of (actions_of new n) ≡ map writes_of (actions_of old n) ++ (removal path ∷ []) ∷ []
remove_kept old new now n path step = one_kept old new now n (OnRemove path) (removal path) refl step

pub update_kept : (old new : State) (now n : ℕ) (ws : List Write) → Step old now n (OnUpdate ws) Done new → (action : Action) × (actions_of new n ≡ actions_of old n ++ action ∷ []) × HasWrites action ws
unfolding Step
update_kept old new now n ws (inl h) =
    let kept = test_apart old now n new ws (true && is_leaving old n) Leaving _ (λ _.
    test_apart old now n new ws (not (is_open old n)) NoSession _ (λ _.
    test_apart old now n new ws (length ws == 0) EmptyUpdate _ (λ _.
    test_apart old now n new ws (overlaps ws) Overlap _ (λ apart e. (apart, keep_establishes old now n new ws e))))) h in
    (action_of ws, behind_all old now n new ws kept.1, has_writes ws kept.0)
update_kept old new now n ws (inr h) = done_is_no_want h.0
