-- What is decided of listeners and then made is what judging them again makes.
use Rattle.std.proofs.Common.{◌≡◌, ℕ, zero, suc, ◌+◌, ◌^◌, ◌<◌, ◌≤◌, Bool, true, false, not, ◌&&◌, cond, eqb, List, [], ◌∷◌, ◌++◌, map, length, take, drop, Option, Some, None, sym, ap, subst, ◌∙◌, refl, arith, append_assoc, length-append, append-nil}
use Rattle.std.proofs.lemmas.Bool.{eq-eqb, eqb-true}
use Rattle.std.proofs.lemmas.List.{length-map}
use Rattle.std.specs.Prelude.{slice_get, slice_set, IfSome}
use Rattle.std.specs.List.{cons_option}
use Rattle.std.specs.FinMap as map_of
use Rattle.evaluator.specs.Identity.{Identity}
use Rattle.tree_model.specs.Path.{Path}
use Rattle.tree_model.specs.Tree.{Tree}
use Rattle.listeners.specs.Query.{Query}
use Rattle.listeners.specs.Table.{Listener}
use Rattle.rtdb_model.specs.State.{State, Session, scene_for}
use Rattle.rtdb_model.specs.Rejudged.{hears, moves, judged, judged_again, rejudged, all_rejudged}
use Rattle.rtdb_core.specs.Working.Fates.{fate_by, fated_live, fated, fate_of, sparse, front, behind, next_place, settled, left_of, with_listeners, settled_all, fates_of, all_sessions, with_settled}
use Rattle.rtdb_model.specs.Step.{told, news_of}
use Rattle.rtdb_model.specs.declared.news.Notice.{Notice}
use Rattle.rtdb_core.specs.declared.fates.Fate.{Fate}
use Rattle.rtdb_core.specs.declared.fates.Decision.{Decision}
use Rattle.rtdb_model.proofs.Slots.{changed}

-- ---- one listener

fated_is : (id : List ℕ) (path : Path) (query : Option Query) (live marked granted moved : Bool) → (let l : Listener = record { id = id; path = path; query = query; live = live; marked = marked } in fated (fate_by live granted (moved && not marked)) l ≡ judged granted moved l)
fated_is id path query false marked granted moved = refl
fated_is id path query true marked false moved = refl
fated_is id path query true true true true = refl
fated_is id path query true false true true = refl
fated_is id path query true marked true false = refl

module _ (old : Tree) (new : State) (now : ℕ) (who : Option Identity) where
  abbrev fate : Listener → Option Fate
  fate = fate_of old new.rules new.tree now who

  again_is : (l : Listener) → fated (fate l) l ≡ judged_again old new now who l
  again_is l = fated_is l.id l.path l.query l.live l.marked (hears (scene_for new now who) l.path l.query) (moves old new.tree l.path l.query)

-- ---- what is noted, by places

not_same : (m k : ℕ) → k < m → eqb m k ≡ false
not_same m k lt = elim (eqb m k) as (λ b. eqb m k ≡ b → b ≡ false) [
  | true ↦ λ e. absurd (apart (eqb-true m k e))
  | false ↦ λ _. refl
] refl
  where
    apart : m ≡ k → ⊥
    apart e = omega (arith, e)

-- nothing is noted of a place before those that are noted
none_before : (k m : ℕ) (fates : List (Option Fate)) → k < m → (front k (sparse m fates) ≡ None) × (behind k (sparse m fates) ≡ sparse m fates)
none_before k m [] lt = (refl, refl)
none_before k m (None ∷ fates) lt = none_before k (suc m) fates (omega arith)
none_before k m (Some fate ∷ fates) lt =
    let apart = not_same m k lt in
    (ap (λ (b : Bool). cond b (Some fate) None) apart, ap (λ (b : Bool). cond b (sparse (suc m) fates) ((record { place = m; fate = fate }) ∷ sparse (suc m) fates)) apart)

front_is : (k : ℕ) (fate : Option Fate) (fates : List (Option Fate)) → (front k (sparse k (fate ∷ fates)) ≡ fate) × (behind k (sparse k (fate ∷ fates)) ≡ sparse (suc k) fates)
front_is k None fates = none_before k (suc k) fates (omega arith)
front_is k (Some fate) fates =
    let same = eq-eqb k k refl in
    (ap (λ (b : Bool). cond b (Some fate) None) same, ap (λ (b : Bool). cond b (sparse (suc k) fates) ((record { place = k; fate = fate }) ∷ sparse (suc k) fates)) same)

next_is : (k : ℕ) → k + 1 < 2 ^ 64 → next_place k ≡ suc k
next_is k lt = omega arith

pub sparse-append : (k : ℕ) (fates others : List (Option Fate)) → sparse k (fates ++ others) ≡ sparse k fates ++ sparse (k + length fates) others
sparse-append k [] others = ap (λ (n : ℕ). sparse n others) (omega arith)
sparse-append k (None ∷ fates) others = sparse-append (suc k) fates others ∙ ap (λ (n : ℕ). sparse (suc k) fates ++ sparse n others) (omega arith)
sparse-append k (Some fate ∷ fates) others =
    ap (λ (ds : List Decision). (record { place = k; fate = fate }) ∷ ds) (sparse-append (suc k) fates others ∙ ap (λ (n : ℕ). sparse (suc k) fates ++ sparse n others) (omega arith))

-- ---- one session

module _ (f : Listener → Option Fate) where
  -- what is made of these listeners, and what is left
  pub made_first : (k : ℕ) (ls : List Listener) (others : List (Option Fate)) → k + length ls < 2 ^ 64 → (settled k (sparse k (map f ls ++ others)) ls ≡ map (λ l. fated (f l) l) ls) × (left_of k (sparse k (map f ls ++ others)) ls ≡ (k + length ls, sparse (k + length ls) others))
  made_first k [] others lt = (refl, λ i. (zero_more i, sparse (zero_more i) others))
    where
      zero_more : k ≡ k + 0
      zero_more = omega arith
  made_first k (l ∷ ls) others lt =
      let here = front_is k (f l) (map f ls ++ others) in
      let next : next_place k ≡ suc k = next_is k (omega arith) in
      let rest = made_first (suc k) ls others (omega arith) in
      let on : suc k + length ls ≡ k + suc (length ls) = omega arith in (
        (λ i. fated (here.0 i) l ∷ settled (next i) (here.1 i) ls) ∙ ap (λ (ks : List Listener). fated (f l) l ∷ ks) rest.0,
        (λ i. left_of (next i) (here.1 i) ls) ∙ rest.1 ∙ (λ i. (on i, sparse (on i) others)),
      )

-- ---- all sessions

module _ (old : Tree) (new : State) (now : ℕ) where
  abbrev fates : List Session → List (Option Fate)
  fates = fates_of old new.rules new.tree now

  again_all : (who : Option Identity) (ls : List Listener) → map (λ l. fated (fate old new now who l) l) ls ≡ map (judged_again old new now who) ls
  again_all who [] = refl
  again_all who (l ∷ ls) = λ i. again_is old new now who l i ∷ again_all who ls i

  pub own_made : (who : Option Identity) (ls : List Listener) → length ls < 2 ^ 64 → settled 0 (sparse 0 (map (fate old new now who) ls)) ls ≡ map (judged_again old new now who) ls
  own_made who ls lt =
      ap (λ (fs : List (Option Fate)). settled 0 (sparse 0 fs) ls) (sym (append-nil (map (fate old new now who) ls)))
      ∙ (made_first (fate old new now who) 0 ls [] (omega arith)).0
      ∙ again_all who ls

  all_made : (k : ℕ) (es : List (ℕ × Session)) → k + length (fates (map (λ e. e.1) es)) < 2 ^ 64 → settled_all k (sparse k (fates (map (λ e. e.1) es))) es ≡ changed (rejudged old new now) es
  all_made k [] lt = refl
  all_made k (e ∷ es) lt =
      let ls = e.1.listeners in
      let others = fates (map (λ e. e.1) es) in
      let mine = map (fate old new now e.1.identity) ls in
      let ds = sparse k (mine ++ others) in
      let long : length (mine ++ others) ≡ length ls + length others = length-append mine others ∙ ap (λ (n : ℕ). n + length others) (length-map ls (fate old new now e.1.identity)) in
      let first = made_first (fate old new now e.1.identity) k ls others (omega (arith, long, lt)) in
      let rest = all_made (k + length ls) es (omega (arith, long, lt)) in
      (λ i. (e.0, with_listeners e.1 (first.0 i)) ∷ settled_all (first.1 i).0 (first.1 i).1 es)
      ∙ (λ i. (e.0, with_listeners e.1 (again_all e.1.identity ls i)) ∷ rest i)

  -- the state with what was decided of all listeners
  pub state_made : (ds : List Decision) → ds ≡ sparse 0 (fates (all_sessions new.sessions)) → length (fates (all_sessions new.sessions)) < 2 ^ 64 → with_settled new ds ≡ all_rejudged old now new
  state_made ds is lt =
      ap (λ (es : List (ℕ × Session)). record { tree = new.tree; rules = new.rules; sessions = map_of.from_entries es })
      (ap (λ (d : List Decision). settled_all 0 d (map_of.entries new.sessions)) is ∙ all_made 0 (map_of.entries new.sessions) (omega (arith, lt)))

-- ---- a walk along a table

-- the listener at an index changed so
abbrev pub changed_at : (Listener → Listener) → ℕ → List Listener → List Listener
changed_at g i [] = []
changed_at g zero (l ∷ ls) = g l ∷ ls
changed_at g (suc i) (l ∷ ls) = l ∷ changed_at g i ls

set_there : (g : Listener → Listener) (ls : List Listener) (i : ℕ) → i < length ls → (m : Listener) × (slice_get ls i ≡ Some m) × (slice_set ls i (g m) ≡ changed_at g i ls)
set_there g [] i lt = absurd (omega arith)
set_there g (l ∷ ls) zero lt = (l, refl, refl)
set_there g (l ∷ ls) (suc i) lt = let rest = set_there g ls i (omega arith) in (rest.0, rest.1, ap (λ (ks : List Listener). l ∷ ks) rest.2)

pub is_set : (g : Listener → Listener) (ls new : List Listener) (i : ℕ) → i < length ls → IfSome (slice_get ls i) (λ l. new ≡ slice_set ls i (g l)) → new ≡ changed_at g i ls
is_set g ls new i lt h =
    let there = set_there g ls i lt in
    subst (λ (o : Option Listener). IfSome o (λ l. new ≡ slice_set ls i (g l))) there.1 h ∙ there.2

pub is_kept : (ls : List Listener) (i : ℕ) → ls ≡ changed_at (λ l. l) i ls
is_kept [] i = refl
is_kept (l ∷ ls) zero = refl
is_kept (l ∷ ls) (suc i) = ap (λ (ks : List Listener). l ∷ ks) (is_kept ls i)

-- how far a walk has come: what is made of these listeners from this place on
pub record IsOnWay (k : ℕ) (ds : List Decision) (ls : List Listener) (i place : ℕ) (left : List Decision) (now : List Listener) : Type 0 where
  pub made : take i now ++ settled place left (drop i now) ≡ settled k ds ls
  pub rest : left_of place left (drop i now) ≡ left_of k ds ls
  pub long : length now ≡ length ls

pub begins : (k : ℕ) (ds : List Decision) (ls : List Listener) → IsOnWay k ds ls 0 k ds ls
begins k ds ls = record { made = refl; rest = refl; long = refl }

one_step : (place : ℕ) (left : List Decision) (ls : List Listener) (i : ℕ) → i < length ls → (let g = fated (front place left) in (take (suc i) (changed_at g i ls) ++ settled (next_place place) (behind place left) (drop (suc i) (changed_at g i ls)) ≡ take i ls ++ settled place left (drop i ls)) × (left_of (next_place place) (behind place left) (drop (suc i) (changed_at g i ls)) ≡ left_of place left (drop i ls)) × (length (changed_at g i ls) ≡ length ls))
one_step place left [] i lt = absurd (omega arith)
one_step place left (l ∷ ls) zero lt = (refl, refl, refl)
one_step place left (l ∷ ls) (suc i) lt =
    let rest = one_step place left ls i (omega arith) in
    (ap (λ (ks : List Listener). l ∷ ks) rest.0, rest.1, ap suc rest.2)

pub goes_on : (k : ℕ) (ds : List Decision) (ls : List Listener) (i place next : ℕ) (left behind_it : List Decision) (now new : List Listener) → IsOnWay k ds ls i place left now → i < length ls → new ≡ changed_at (fated (front place left)) i now → next ≡ next_place place → behind_it ≡ behind place left → IsOnWay k ds ls (i + 1) next behind_it new
goes_on k ds ls i place next left behind_it now new way lt is on after =
    let step = one_step place left now i (omega (arith, way.long, lt)) in
    let further : suc i ≡ i + 1 = omega arith in
    subst (λ (j : ℕ). IsOnWay k ds ls j next behind_it new) further
    (subst (λ (ms : List Listener). IsOnWay k ds ls (suc i) next behind_it ms) (sym is)
    (subst (λ (n : ℕ). IsOnWay k ds ls (suc i) n behind_it (changed_at (fated (front place left)) i now)) (sym on)
    (subst (λ (bs : List Decision). IsOnWay k ds ls (suc i) (next_place place) bs (changed_at (fated (front place left)) i now)) (sym after)
    (record { made = step.0 ∙ way.made; rest = step.1 ∙ way.rest; long = step.2 ∙ way.long }))))

all_taken : (ls : List Listener) (i : ℕ) → length ls ≤ i → (take i ls ≡ ls) × (drop i ls ≡ [])
all_taken [] zero le = (refl, refl)
all_taken [] (suc i) le = (refl, refl)
all_taken (l ∷ ls) zero le = absurd (omega arith)
all_taken (l ∷ ls) (suc i) le = let rest = all_taken ls i (omega arith) in (ap (λ (ks : List Listener). l ∷ ks) rest.0, rest.1)

pub ends : (k : ℕ) (ds : List Decision) (ls : List Listener) (i place : ℕ) (left : List Decision) (now : List Listener) → IsOnWay k ds ls i place left now → length ls ≤ i → (now ≡ settled k ds ls) × (◌≡◌ {A = ℕ × List Decision} (place, left) (left_of k ds ls))
ends k ds ls i place left now way le =
    let all = all_taken now i (omega (arith, way.long, le)) in (
      sym (append-nil now) ∙ (λ j. sym all.0 j ++ settled place left (sym all.1 j)) ∙ way.made,
      ap (left_of place left) (sym all.1) ∙ way.rest,
    )

-- of one that is cancelled nothing is made
pub cancelled_stays : (fate : Fate) (ls : List Listener) (i : ℕ) (one : Listener) → slice_get ls i ≡ Some one → one.live ≡ false → IfSome (slice_get ls i) (λ l. ls ≡ slice_set ls i (fated (Some fate) l))
cancelled_stays fate ls i one at dead =
    subst (λ (o : Option Listener). IfSome o (λ l. ls ≡ slice_set ls i (fated (Some fate) l))) (sym at)
    (set_same ls i one at ∙ ap (λ (b : Bool). slice_set ls i (cond b (fated_live fate one) one)) (sym dead))
  where
    set_same : (ls : List Listener) (i : ℕ) (one : Listener) → slice_get ls i ≡ Some one → ls ≡ slice_set ls i one
    set_same [] i one at = refl
    set_same (l ∷ ls) zero one at = ap (λ (k : Listener). k ∷ ls) (some_is l one at)
      where
        some_is : (x y : Listener) → Some x ≡ Some y → x ≡ y
        some_is x y e = cc
    set_same (l ∷ ls) (suc i) one at = ap (λ (ks : List Listener). l ∷ ks) (set_same ls i one at)

-- ---- what is reported on the way

here_is : (ls : List Listener) (i : ℕ) (l : Listener) → slice_get ls i ≡ Some l → drop i ls ≡ l ∷ drop (suc i) ls
here_is [] i l at = cc
here_is (k ∷ ls) zero l at = ap (λ (x : Listener). x ∷ ls) (some_is k l at)
  where
    some_is : (x y : Listener) → Some x ≡ Some y → x ≡ y
    some_is x y e = cc
here_is (k ∷ ls) (suc i) l at = here_is ls i l at

told_first : (o : Option Notice) (before rest : List Notice) → (before ++ cons_option o []) ++ rest ≡ before ++ cons_option o rest
told_first None before rest = ap (λ (ns : List Notice). ns ++ rest) (append-nil before)
told_first (Some notice) before rest = append_assoc before (notice ∷ []) rest

pub tells_on : (t : Tree) (ls : List Listener) (i place next : ℕ) (left behind_it : List Decision) (l : Listener) (notice : Option Notice) (before new all : List Notice) → before ++ news_of t (settled place left (drop i ls)) ≡ all → slice_get ls i ≡ Some l → notice ≡ told t (fated (front place left) l) → new ≡ before ++ cons_option notice [] → next ≡ next_place place → behind_it ≡ behind place left → new ++ news_of t (settled next behind_it (drop (i + 1) ls)) ≡ all
tells_on t ls i place next left behind_it l notice before new all so_far at tells adds on after =
    let further : i + 1 ≡ suc i = omega arith in
    (λ j. adds j ++ news_of t (settled (on j) (after j) (drop (further j) ls)))
    ∙ told_first notice before (news_of t (settled (next_place place) (behind place left) (drop (suc i) ls)))
    ∙ ap (λ (o : Option Notice). before ++ cons_option o (news_of t (settled (next_place place) (behind place left) (drop (suc i) ls)))) tells
    ∙ ap (λ (ks : List Listener). before ++ news_of t (settled place left ks)) (sym (here_is ls i l at))
    ∙ so_far

pub all_told : (t : Tree) (ls : List Listener) (i place : ℕ) (left : List Decision) (before all : List Notice) → before ++ news_of t (settled place left (drop i ls)) ≡ all → length ls ≤ i → before ≡ all
all_told t ls i place left before all so_far le = sym (append-nil before) ∙ ap (λ (ks : List Listener). before ++ news_of t (settled place left ks)) (sym (all_taken ls i le).1) ∙ so_far
