-- What the walks from the root say of reads and writes.
use Rattle.std.proofs.Common.{◌≡◌, ◌≢◌, ℕ, ◌≤◌, ◌⊎◌, inl, inr, Bool, true, false, cond, not, List, [], ◌∷◌, map, length, Some, None, Option, sym, ap, ◌∙◌, subst, refl, arith}
use Rattle.std.specs.Prelude.{◌↔◌, Contains, find, MatchOption}
use Rattle.std.specs.List.{AllByRecursion}
use Rattle.std.specs.List.Sorted.{IsPermutation}
use Rattle.std.specs.Cmp.{tied_itself}
use Rattle.std.proofs.lemmas.Bool.{false≢true}
use Rattle.std.proofs.lemmas.List.Sorted.{Contains-permutation, IsPermutation-sym, list_any-IsPermutation}
use Rattle.std.specs.declared.cmp.Ordering.TheVariants.{Less}
use Rattle.tree_model.specs.Path.{Path, path_cmp}
use Rattle.tree_model.specs.Tree.{Tree}
use Rattle.tree_model.proofs.Choices.{true_is_not_false}
use Rattle.tree_model.proofs.Orders.{paths_total}
use Rattle.rules_reader.specs.Part.{Pattern, texts}
use Rattle.rules_reader.specs.Place.{HasOneCapture}
use Rattle.rules_reader.specs.declared.kind.Kind.{Kind}
use Rattle.rules_reader.specs.declared.kind.Kind.TheVariants.{Read, Write, Validate}
use Rattle.evaluator.specs.Asked.{Asked}
use Rattle.judge.specs.Question.{Scene, Question, reading, writing}
use Rattle.judge.specs.Granting.{IsGranted}
use Rattle.judge.specs.Failing.{is_near, is_touched, FailsAt, IsValid, IsFirstFailing}
use Rattle.judge.specs.Tests.{answer_at, named_rules}
use Rattle.judge.specs.Judging.{MayRead, MayWriteAll, IsLeastRefused, IsReadVerdict, IsWriteVerdict, read_verdict_of}
use Rattle.judge.specs.declared.verdict.Why.{Why}
use Rattle.judge.specs.declared.verdict.Named.{Named}
use Rattle.judge.specs.declared.verdict.Verdict.{Verdict}
use Rattle.judge.specs.declared.verdict.Verdict.TheVariants.{Granted, ReadDenied, WriteDenied, ValidateDenied}
use Rattle.judge.specs.declared.grant.Denial.{Denial}
use Rattle.judge.specs.declared.validate.Failure.{Failure}
use Rattle.judge.specs.Working.Locations.{rests, PathsAscend}
use Rattle.judge.specs.Working.Refused.{Ask, granted, granted_from, names_from, seen_names, Refuses, IsDenialAlong}
use Rattle.judge.specs.Working.Found.{Found, FailsFrom, Near, place_of}
use Rattle.std.specs.Borrow.{Bor}
use Rattle.std.specs.FinMap as map_of
use Rattle.tree_model.specs.declared.limits.TheConstants.{MAX_DEPTH}
use Rattle.tree_model.specs.Key.{Key}
use Rattle.tree_model.specs.Tree.{IsLawful}
use Rattle.path_capture.specs.Pattern as parts
use Rattle.evaluator.specs.Value.{Snapshot}
use Rattle.evaluator.specs.Env.{access_of, writes}
use Rattle.judge.specs.Question.{Request, read, write, access_at, scene_of}
use Rattle.judge.specs.declared.spot.Asking.{Asking}
use Rattle.judge.specs.declared.spot.Spot.{Spot}
use Rattle.judge.specs.Working.Standing.{AsksFor, IsAt, Stands, StandsAtRoot, ask_of, path_of, coming_of, question_of, proposed_by}
use Rattle.judge.proofs.Groups.{length-back}
use Rattle.judge.proofs.Walks.{room_for_place}
use Rattle.judge.proofs.Places.{is_at_root}
use Rattle.judge.proofs.Among.{IsOf, of_contained, contained}
use Rattle.judge.proofs.Verdicts.{valid_if}
use Rattle.judge.proofs.Decided.{granted_decides, granted_is, named_is, fails_test, fails_so}

-- ---- lists

none_passes : (P : Path → Bool) (ls : List Path) (m : Path) → find P ls ≡ None → IsOf m ls → P m ≡ false
none_passes P [] m h i = elim i [ ]
none_passes P (l ∷ ls) m h i = elim (P l) as (λ b. P l ≡ b → cond b (Some l) (find P ls) ≡ None → P m ≡ false) [
  | true ↦ λ _ g. cc
  | false ↦ λ e g. at (none_passes P ls m g) e i
] refl h
  where
    at : (IsOf m ls → P m ≡ false) → P l ≡ false → (l ≡ m) ⊎ IsOf m ls → P m ≡ false
    at rest e (inl same) = ap P (sym same) ∙ e
    at rest e (inr j) = rest j

-- the first that passes is among them, passes, and where they ascend none that passes is less
first_passes : (P : Path → Bool) (ls : List Path) (l : Path) → find P ls ≡ Some l → PathsAscend ls → IsOf l ls × (P l ≡ true) × ((m : Path) → IsOf m ls → P m ≡ true → path_cmp m l ≢ Less)
first_passes P [] l h sorted = cc
first_passes P (x ∷ ls) l h sorted = elim (P x) as (λ b. P x ≡ b → cond b (Some x) (find P ls) ≡ Some l → IsOf l (x ∷ ls) × (P l ≡ true) × ((m : Path) → IsOf m (x ∷ ls) → P m ≡ true → path_cmp m l ≢ Less)) [
  | true ↦ λ e g. (inl (same g), ap P (sym (same g)) ∙ e, here (same g))
  | false ↦ λ e g. let rest = first_passes P ls l g sorted.1 in (inr rest.0, rest.1, there e rest.2)
] refl h
  where
    same : Some x ≡ Some l → x ≡ l
    same e = cc

    all_of : (y : Path) (ks : List Path) (m : Path) → AllByRecursion (λ k. path_cmp k y ≢ Less) ks → IsOf m ks → path_cmp m y ≢ Less
    all_of y [] m all i = elim i [ ]
    all_of y (k ∷ ks) m all (inl e) = subst (λ (p : Path). path_cmp p y ≢ Less) e all.0
    all_of y (k ∷ ks) m all (inr i) = all_of y ks m all.1 i

    itself : (y : Path) → path_cmp y y ≢ Less
    itself y = λ e. let tie = tied_itself paths_total y in cc

    here : x ≡ l → (m : Path) → IsOf m (x ∷ ls) → P m ≡ true → path_cmp m l ≢ Less
    here e m (inl i) passes = subst (λ (p : Path). path_cmp p l ≢ Less) (sym e ∙ i) (itself l)
    here e m (inr i) passes = subst (λ (p : Path). path_cmp m p ≢ Less) e (all_of x ls m sorted.0 i)

    there : P x ≡ false → ((m : Path) → IsOf m ls → P m ≡ true → path_cmp m l ≢ Less) → (m : Path) → IsOf m (x ∷ ls) → P m ≡ true → path_cmp m l ≢ Less
    there e rest m (inl i) passes = absurd (true_is_not_false (P m) passes (ap P (sym i) ∙ e))
    there e rest m (inr i) passes = rest m i passes

-- ---- what is granted

opposite_true : (b : Bool) → not b ≡ false → b ≡ true
opposite_true true h = refl
opposite_true false h = sym h

opposite_false : (b : Bool) → not b ≡ true → b ≡ false
opposite_false true h = sym h
opposite_false false h = refl

module _ (q : Question) (kind : Kind) (one : HasOneCapture q.scene.book) where
  is_so : (l : Path) → not (granted_from (answer_at q kind) [] l) ≡ false → IsGranted q kind l
  is_so l h = (granted_decides q kind l one).0 (granted_is (answer_at q kind) l ∙ opposite_true (granted_from (answer_at q kind) [] l) h)

  is_not : (l : Path) → not (granted_from (answer_at q kind) [] l) ≡ true → ¬ (IsGranted q kind l)
  is_not l h g = false≢true (sym (opposite_false (granted_from (answer_at q kind) [] l) h) ∙ sym (granted_is (answer_at q kind) l) ∙ (granted_decides q kind l one).1 g)

  passes : (l : Path) → ¬ (IsGranted q kind l) → not (granted_from (answer_at q kind) [] l) ≡ true
  passes l h = elim (granted_from (answer_at q kind) [] l) as (λ b. granted_from (answer_at q kind) [] l ≡ b → not b ≡ true) [
    | true ↦ λ e. absurd (h ((granted_decides q kind l one).0 (granted_is (answer_at q kind) l ∙ e)))
    | false ↦ λ _. refl
  ] refl

  named_at : (l : Path) (found : List Named) → found ≡ names_from (answer_at q kind) [] l → found ≡ named_rules q kind l
  unfolding named_rules
  named_at l found h = h ∙ sym (named_is (answer_at q kind) l)

  -- no location is refused
  pub all_granted : (ls : List Path) → Refuses (granted_from (answer_at q kind) []) (names_from (answer_at q kind) []) 0 ls None → (l : Path) → Contains ls l → IsGranted q kind l
  all_granted ls h l i = is_so l (none_passes (λ m. not (granted_from (answer_at q kind) [] m)) ls l h (of_contained ls l i))

  -- one is: it is the least, and its rules are named
  pub least_refused : (ls : List Path) (denial : Denial) → PathsAscend ls → Refuses (granted_from (answer_at q kind) []) (names_from (answer_at q kind) []) 0 ls (Some denial)
      → Contains ls denial.location.now × (¬ (IsGranted q kind denial.location.now)) × ((other : Path) → Contains ls other → ¬ (IsGranted q kind other) → path_cmp other denial.location.now ≢ Less) × (seen_names denial.seen.items ≡ named_rules q kind denial.location.now)
  least_refused ls denial sorted h =
      let first = first_passes (λ m. not (granted_from (answer_at q kind) [] m)) ls denial.location.now h.0 sorted in (
        contained ls denial.location.now first.0,
        is_not denial.location.now first.1,
        (λ other i refused. first.2 other (of_contained ls other i) (passes other refused)),
        named_at denial.location.now (seen_names denial.seen.items) h.1,
      )

-- where a walk stands at the root
pub at_root : (ask : Ask) (from : Path) (ls : List Path) (o : Option Denial) → from ≡ [] → Refuses (granted_from ask from) (names_from ask from) (length from) ls o → Refuses (granted_from ask []) (names_from ask []) 0 ls o
at_root ask from ls o root h = subst (λ (p : Path). Refuses (granted_from ask p) (names_from ask p) (length p) ls o) root h

-- ---- writes

pub write_denied : (scene : Scene) (t : Tree) (ls : List Path) (denial : Denial) (location : Path) (named : List Named) → HasOneCapture scene.book → PathsAscend ls → Refuses (granted_from (answer_at (writing scene t) Write) []) (names_from (answer_at (writing scene t) Write) []) 0 ls (Some denial) → location ≡ denial.location.now → named ≡ seen_names denial.seen.items → IsWriteVerdict scene t ls (WriteDenied location named)
write_denied scene t ls denial location named one sorted h at same =
    let least = least_refused (writing scene t) Write one ls denial sorted h in (
      subst (IsLeastRefused scene t ls) (sym at) record { among = least.0; refused = least.1; least = least.2 },
      same ∙ least.3 ∙ ap (named_rules (writing scene t) Write) (sym at),
    )

-- ---- validation

rests_at_root : (ls : List Path) → rests 0 ls ≡ ls
rests_at_root [] = refl
rests_at_root (l ∷ ls) = ap (λ ms. l ∷ ms) (rests_at_root ls)

pub ascend_at_root : (from : Path) (ls : List Path) → from ≡ [] → PathsAscend ls → PathsAscend (rests (length from) ls)
ascend_at_root from ls root h = subst (λ (p : Path). PathsAscend (rests (length p) ls)) (sym root) (subst PathsAscend (sym (rests_at_root ls)) h)

pub found_at_root : (ask : Ask) (t : Tree) (from : Path) (ls : List Path) (o : Option Failure) → from ≡ [] → Found (Near (rests (length from) ls) (FailsFrom ask t from)) o → Found (Near ls (FailsFrom ask t [])) o
found_at_root ask t from ls o root h = subst (λ (ms : List Path). Found (Near ms (FailsFrom ask t [])) o) (rests_at_root ls) (subst (λ (p : Path). Found (Near (rests (length p) ls) (FailsFrom ask t p)) o) root h)

to_near : (scene : Scene) (t : Tree) (ls : List Path) (place : Path) (pattern : Pattern) (why : Why) → HasOneCapture scene.book → FailsAt scene t ls place pattern why → Near ls (FailsFrom (answer_at (writing scene t) Validate) t []) place (pattern, why)
to_near scene t ls place pattern why one f = (f.touched, (f.exists, fails_test (writing scene t) Validate place pattern why one f.fails))

from_near : (scene : Scene) (t : Tree) (ls : List Path) (place : Path) (pattern : Pattern) (why : Why) → Near ls (FailsFrom (answer_at (writing scene t) Validate) t []) place (pattern, why) → FailsAt scene t ls place pattern why
from_near scene t ls place pattern why f = record { exists = f.1.0; touched = f.0; fails = fails_so (writing scene t) Validate place pattern why f.1.1 }

pub valid : (scene : Scene) (t : Tree) (ls : List Path) → HasOneCapture scene.book → Found (Near ls (FailsFrom (answer_at (writing scene t) Validate) t [])) None → IsValid scene t ls
valid scene t ls one none = valid_if scene t ls (λ place pattern why f. none place (pattern, why) (to_near scene t ls place pattern why one f))

pub first_failing : (scene : Scene) (t : Tree) (ls : List Path) (f : Failure) → HasOneCapture scene.book → Found (Near ls (FailsFrom (answer_at (writing scene t) Validate) t [])) (Some f) → IsFirstFailing scene t ls (place_of f) (texts f.pattern.now) f.why
first_failing scene t ls f one found = record {
  fails = from_near scene t ls (place_of f) (texts f.pattern.now) f.why found.fails;
  least = λ other p w g. found.least other (p, w) (to_near scene t ls other p w one g);
}

-- ---- any order

touched_in : (ls ms : List Path) (place : Path) → IsPermutation ls ms → is_touched ls place ≡ true → is_touched ms place ≡ true
touched_in ls ms place e h = sym (list_any-IsPermutation (is_near place) ls ms e) ∙ h

fails_in : (scene : Scene) (t : Tree) (ls ms : List Path) → IsPermutation ls ms → (place : Path) (pattern : Pattern) (why : Why) → FailsAt scene t ls place pattern why → FailsAt scene t ms place pattern why
fails_in scene t ls ms e place pattern why f = record { exists = f.exists; touched = touched_in ls ms place e f.touched; fails = f.fails }

pub verdict_in_any_order : (scene : Scene) (t : Tree) (xs ys : List Path) (v : Verdict) → IsPermutation xs ys → IsWriteVerdict scene t ys v → IsWriteVerdict scene t xs v
verdict_in_any_order scene t xs ys Granted p h = ((λ l i. h.0 l (Contains-permutation xs ys l p i)), λ place pattern answer there touched g. h.1 place pattern answer there (touched_in xs ys place p touched) g)
verdict_in_any_order scene t xs ys (ReadDenied named) p h = h
verdict_in_any_order scene t xs ys (WriteDenied location named) p h = (
  record {
    among = Contains-permutation ys xs location (IsPermutation-sym xs ys p) h.0.among;
    refused = h.0.refused;
    least = λ m i. h.0.least m (Contains-permutation xs ys m p i);
  },
  h.1,
)
verdict_in_any_order scene t xs ys (ValidateDenied place pattern why) p h = (
  (λ l i. h.0 l (Contains-permutation xs ys l p i)),
  record {
    fails = fails_in scene t ys xs (IsPermutation-sym xs ys p) place (texts pattern) why h.1.fails;
    least = λ other r w f. h.1.least other r w (fails_in scene t xs ys p other r w f);
  },
  h.2,
)

-- ---- a question that is asked from the root

pub stands_anew : (asking : Asking) (spot : Spot) (bound : List (List ℕ × Key)) → bound ≡ [] → StandsAtRoot asking spot → Stands asking spot bound
stands_anew asking spot bound none root = subst (Stands asking spot) (sym none) root.here

pub stands_at_root : (asking : Asking) (spot : Spot) → HasOneCapture (question_of asking).scene.book → spot.rule.now ≡ record { at = []; book = (question_of asking).scene.book } → map_of.contains_key (question_of asking).scene.book [] ≡ true → spot.here.now ≡ ((question_of asking).scene.old, []) → access_of spot.access ≡ access_at (question_of asking).request [] → AsksFor asking.kind (question_of asking).request → StandsAtRoot asking spot
stands_at_root asking spot one node listed here access asks = record {
  here = record { at = is_at_root (question_of asking) spot.rule.now spot.here.now (access_of spot.access) one node listed here access; asks = asks };
  root = ap (λ (s : Snapshot). s.1) here;
}

-- rules of another kind, asked from the same spot
pub stands_for : (asking validating : Asking) (spot : Spot) → question_of asking ≡ question_of validating → AsksFor validating.kind (question_of validating).request → StandsAtRoot asking spot → StandsAtRoot validating spot
stands_for asking validating spot same asks root = record {
  here = record { at = subst (λ (q : Question). IsAt q spot.rule.now spot.here.now (access_of spot.access) []) same root.here.at; asks = asks };
  root = root.root;
}

pub writes_root : (s : Snapshot) (t : Tree) → s ≡ (t, []) → writes s ≡ writes (s.0, [])
writes_root s t e = ap (λ (p : Path). writes (s.0, p)) (ap (λ (x : Snapshot). x.1) e)

is_write : (kind : Kind) (r : Request) → kind ≢ Read → AsksFor kind r → r ≡ write (proposed_by r)
is_write Read r n h = absurd (n refl)
is_write Write (read asked) n h = elim h [ ]
is_write Write (write t) n h = refl
is_write Validate (read asked) n h = elim h [ ]
is_write Validate (write t) n h = refl

no_read : (kind other : Kind) → kind ≡ other → other ≢ Read → kind ≢ Read
no_read kind other e n h = n (sym e ∙ h)

question_is : (asking : Asking) (kind : Kind) → asking.kind ≡ kind → kind ≢ Read → AsksFor asking.kind (question_of asking).request → question_of asking ≡ writing (scene_of asking.scene.now) (coming_of asking)
question_is asking kind e n asks i = record { scene = scene_of asking.scene.now; request = is_write asking.kind (question_of asking).request (no_read asking.kind kind e n) asks i }

refused_anew : (asking : Asking) (spot : Spot) (kind : Kind) (q : Question) (ls : List Path) (o p : Option Denial) → StandsAtRoot asking spot → asking.kind ≡ kind → question_of asking ≡ q → o ≡ p → Refuses (granted_from (ask_of asking) (path_of spot)) (names_from (ask_of asking) (path_of spot)) (length (path_of spot)) ls o → Refuses (granted_from (answer_at q kind) []) (names_from (answer_at q kind) []) 0 ls p
refused_anew asking spot kind q ls o p root e f is h =
    subst (Refuses (granted_from (answer_at q kind) []) (names_from (answer_at q kind) []) 0 ls) is
    (subst (λ (ask : Ask). Refuses (granted_from ask []) (names_from ask []) 0 ls o) (λ i. answer_at (f i) (e i)) (at_root (ask_of asking) (path_of spot) ls o root.root h))

found_anew : (asking : Asking) (spot : Spot) (q : Question) (ls : List Path) (o p : Option Failure) → StandsAtRoot asking spot → asking.kind ≡ Validate → question_of asking ≡ q → o ≡ p → Found (Near (rests (length (path_of spot)) ls) (FailsFrom (ask_of asking) (coming_of asking) (path_of spot))) o → Found (Near ls (FailsFrom (answer_at q Validate) (coming_of asking) [])) p
found_anew asking spot q ls o p root e f is h =
    subst (Found (Near ls (FailsFrom (answer_at q Validate) (coming_of asking) []))) is
    (subst (λ (ask : Ask). Found (Near ls (FailsFrom ask (coming_of asking) [])) o) (λ i. answer_at (f i) (e i)) (found_at_root (ask_of asking) (coming_of asking) (path_of spot) ls o root.root h))

pub may_read_answer : (asking : Asking) (spot : Spot) (scene : Scene) (asked : Asked) (path : Path) (found : Bool) → question_of asking ≡ reading scene asked → asking.kind ≡ Read → StandsAtRoot asking spot
    → found ≡ granted_from (ask_of asking) (path_of spot) path → (found ≡ true) ↔ MayRead scene asked path
may_read_answer asking spot scene asked path found f e root h =
    let all : found ≡ granted (answer_at (reading scene asked) Read) path =
    h ∙ (λ i. granted_from (answer_at (f i) (e i)) (root.root i) path) ∙ sym (granted_is (answer_at (reading scene asked) Read) path) in
    subst (λ (b : Bool). (b ≡ true) ↔ MayRead scene asked path) (sym all) (granted_decides (reading scene asked) Read path (subst (λ (q : Question). HasOneCapture q.scene.book) f root.here.at.one))

-- what a walk along a path from the root says of a read of it
pub read_along : (asking : Asking) (spot : Spot) (scene : Scene) (asked : Asked) (path : Path) (names : Option (List Named)) → question_of asking ≡ reading scene asked → asking.kind ≡ Read → StandsAtRoot asking spot
    → IsDenialAlong (ask_of asking) path names → IsReadVerdict scene asked path (read_verdict_of names)
read_along asking spot scene asked path None f e root h =
    is_so (reading scene asked) Read (subst (λ (q : Question). HasOneCapture q.scene.book) f root.here.at.one) path (ap not ((λ i. granted_from (answer_at (sym f i) (sym e i)) [] path) ∙ h))
read_along asking spot scene asked path (Some names) f e root h = (
  is_not (reading scene asked) Read (subst (λ (q : Question). HasOneCapture q.scene.book) f root.here.at.one) path (ap not ((λ i. granted_from (answer_at (sym f i) (sym e i)) [] path) ∙ h.0)),
  named_at (reading scene asked) Read (subst (λ (q : Question). HasOneCapture q.scene.book) f root.here.at.one) path names (h.1 ∙ (λ i. names_from (answer_at (f i) (e i)) [] path)),
)

write_is_no_read : Write ≢ Read
write_is_no_read e = cc

validate_is_no_read : Validate ≢ Read
validate_is_no_read e = cc

pub write_answer_none : (asking : Asking) (spot : Spot) (ls : List Path) (o : Option Denial) → asking.kind ≡ Write → StandsAtRoot asking spot → o ≡ None
    → Refuses (granted_from (ask_of asking) (path_of spot)) (names_from (ask_of asking) (path_of spot)) (length (path_of spot)) ls o → MayWriteAll (scene_of asking.scene.now) (coming_of asking) ls
write_answer_none asking spot ls o e root is h =
    all_granted (writing (scene_of asking.scene.now) (coming_of asking)) Write root.here.at.one ls
    (refused_anew asking spot Write (writing (scene_of asking.scene.now) (coming_of asking)) ls o None root e (question_is asking Write e write_is_no_read root.here.asks) is h)

pub write_answer_some : (asking : Asking) (spot : Spot) (ls : List Path) (o : Option Denial) (denial : Denial) (location : Path) (named : List Named) → asking.kind ≡ Write → StandsAtRoot asking spot → PathsAscend ls → o ≡ Some denial → location ≡ denial.location.now → named ≡ seen_names denial.seen.items
    → Refuses (granted_from (ask_of asking) (path_of spot)) (names_from (ask_of asking) (path_of spot)) (length (path_of spot)) ls o → IsWriteVerdict (scene_of asking.scene.now) (coming_of asking) ls (WriteDenied location named)
write_answer_some asking spot ls o denial location named e root sorted is at same h =
    write_denied (scene_of asking.scene.now) (coming_of asking) ls denial location named root.here.at.one sorted
    (refused_anew asking spot Write (writing (scene_of asking.scene.now) (coming_of asking)) ls o (Some denial) root e (question_is asking Write e write_is_no_read root.here.asks) is h) at same

-- what a walk along the location of one write from the root says of it
pub write_along : (asking : Asking) (spot : Spot) (t : Tree) (location : Path) (names : Option (List Named)) → asking.kind ≡ Write → StandsAtRoot asking spot → coming_of asking ≡ t
    → IsDenialAlong (ask_of asking) location names
    → MatchOption names (MayWriteAll (scene_of asking.scene.now) t (location ∷ [])) (λ all. IsWriteVerdict (scene_of asking.scene.now) t (location ∷ []) (WriteDenied location all))
write_along asking spot t location None e root same h =
    let q = question_is asking Write e write_is_no_read root.here.asks in
    subst (λ (u : Tree). MayWriteAll (scene_of asking.scene.now) u (location ∷ [])) same
    (all_granted (writing (scene_of asking.scene.now) (coming_of asking)) Write root.here.at.one (location ∷ [])
    (ap (λ b. cond (not b) (Some location) None) ((λ i. granted_from (answer_at (sym q i) (sym e i)) [] location) ∙ h)))
write_along asking spot t location (Some all) e root same h =
    let q = question_is asking Write e write_is_no_read root.here.asks in
    let asked = writing (scene_of asking.scene.now) (coming_of asking) in
    subst (λ (u : Tree). IsWriteVerdict (scene_of asking.scene.now) u (location ∷ []) (WriteDenied location all)) same (
      record {
        among = contained (location ∷ []) location (inl refl);
        refused = is_not asked Write root.here.at.one location (ap not ((λ i. granted_from (answer_at (sym q i) (sym e i)) [] location) ∙ h.0));
        least = λ other i _. no_less location other (of_contained (location ∷ []) other i);
      },
      named_at asked Write root.here.at.one location all (h.1 ∙ (λ i. names_from (answer_at (q i) (e i)) [] location)),
    )
  where
    no_less : (l other : Path) → IsOf other (l ∷ []) → path_cmp other l ≢ Less
    no_less l other (inl same) = subst (λ (p : Path). path_cmp p l ≢ Less) same (λ e. let tie = tied_itself paths_total l in cc)
    no_less l other (inr i) = elim i [ ]

pub valid_answer_none : (asking : Asking) (spot : Spot) (ls : List Path) (o : Option Failure) → asking.kind ≡ Validate → StandsAtRoot asking spot → o ≡ None
    → Found (Near (rests (length (path_of spot)) ls) (FailsFrom (ask_of asking) (coming_of asking) (path_of spot))) o → IsValid (scene_of asking.scene.now) (coming_of asking) ls
valid_answer_none asking spot ls o e root is h =
    valid (scene_of asking.scene.now) (coming_of asking) ls root.here.at.one
    (found_anew asking spot (writing (scene_of asking.scene.now) (coming_of asking)) ls o None root e (question_is asking Validate e validate_is_no_read root.here.asks) is h)

pub valid_answer_some : (asking : Asking) (spot : Spot) (ls : List Path) (o : Option Failure) (f : Failure) (place : Path) (pattern : parts.Pattern) → asking.kind ≡ Validate → StandsAtRoot asking spot → MayWriteAll (scene_of asking.scene.now) (coming_of asking) ls → o ≡ Some f → place ≡ place_of f → pattern ≡ f.pattern.now → map parts.part_of_text (texts pattern) ≡ pattern
    → Found (Near (rests (length (path_of spot)) ls) (FailsFrom (ask_of asking) (coming_of asking) (path_of spot))) o → IsWriteVerdict (scene_of asking.scene.now) (coming_of asking) ls (ValidateDenied place pattern f.why)
valid_answer_some asking spot ls o f place pattern e root granted is at same lawful h = (
  granted,
  subst (λ (p : Path). IsFirstFailing (scene_of asking.scene.now) (coming_of asking) ls p (texts pattern) f.why) (sym at)
      (subst (λ (p : parts.Pattern). IsFirstFailing (scene_of asking.scene.now) (coming_of asking) ls (place_of f) (texts p) f.why) (sym same)
      (first_failing (scene_of asking.scene.now) (coming_of asking) ls f root.here.at.one
      (found_anew asking spot (writing (scene_of asking.scene.now) (coming_of asking)) ls o (Some f) root e (question_is asking Validate e validate_is_no_read root.here.asks) is h))),
  lawful,
)

pub room_for_failure : (asking : Asking) (spot : Spot) (ls : List Path) (o : Option Failure) (f : Failure) (keys : List (Bor Key)) → asking.kind ≡ Validate → StandsAtRoot asking spot → IsLawful (coming_of asking) → o ≡ Some f → keys ≡ f.keys.items
    → Found (Near (rests (length (path_of spot)) ls) (FailsFrom (ask_of asking) (coming_of asking) (path_of spot))) o → length keys ≤ MAX_DEPTH
room_for_failure asking spot ls o f keys e root lawful is same h =
    let found = found_anew asking spot (writing (scene_of asking.scene.now) (coming_of asking)) ls o (Some f) root e (question_is asking Validate e validate_is_no_read root.here.asks) is h in
    let room = room_for_place (coming_of asking) (place_of f) lawful found.fails.1.0 in
    omega (arith, room, ap length same, length-back (λ (key : Bor Key). key.now) f.keys.items)

-- ---- answers that may be none

pub verdict_some : (scene : Scene) (t u : Tree) (ls : List Path) (N : Type 0) (o : Option Verdict) (v : Verdict) → t ≡ u → o ≡ Some v → MatchOption o N (IsWriteVerdict scene t ls) → IsWriteVerdict scene u ls v
verdict_some scene t u ls N o v e is h = subst (λ (x : Tree). IsWriteVerdict scene x ls v) e (subst (λ (p : Option Verdict). MatchOption p N (IsWriteVerdict scene t ls)) is h)

pub verdict_none : (N : Type 0) (P : Verdict → Type 0) (o : Option Verdict) → o ≡ None → MatchOption o N P → N
verdict_none N P o is h = subst (λ (p : Option Verdict). MatchOption p N P) is h

pub verdict_granted : (scene : Scene) (t u : Tree) (ls : List Path) → t ≡ u → MayWriteAll scene t ls → IsValid scene t ls → IsWriteVerdict scene u ls Granted
verdict_granted scene t u ls e may valid_there = subst (λ (x : Tree). MayWriteAll scene x ls × IsValid scene x ls) e (may, valid_there)
