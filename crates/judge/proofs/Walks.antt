-- A walk over a tree, and what is left of it.
use Rattle.std.proofs.Common.{◌≡◌, ◌≢◌, ℕ, zero, suc, ◌+◌, ◌≤◌, add-one, ◌<◌, ◌⊎◌, inl, inr, ◌||◌, Bool, true, false, cond, List, [], ◌∷◌, ◌++◌, map, length, drop, slice_get, Some, None, Option, is_some, is_none, sym, ap, ◌∙◌, subst, refl, arith, append_assoc, append-nil, length-append}
use Rattle.std.proofs.lemmas.Bool.{false≢true}
use lib.Dec.{T}
use Rattle.std.specs.List.{list_any}
use Rattle.std.specs.FinMap as map_of
use Rattle.std.specs.FinMap.{is_sorted}
use Rattle.std.specs.FinMap.Entries.{below_all}
use Rattle.std.specs.declared.cmp.Ordering.TheVariants.{Less, Equal, Greater}
use Rattle.std.specs.Ordering.{is_lt, is_eq, eq_by_cmp, ordering_reverse}
use Rattle.std.specs.Cmp.{first_so, second_so, tied_itself}
use Rattle.tree_model.specs.declared.limits.TheConstants.{MAX_DEPTH}
use Rattle.tree_model.specs.Key.{Key, key_cmp}
use Rattle.tree_model.specs.Path.{Path}
use Rattle.tree_model.specs.PathMap.{exists, sub, is_null}
use Rattle.tree_model.specs.Tree.{Tree, null, non_null, children, child_keys, IsLawful}
use Rattle.tree_model.proofs.Choices.{none_is_not_some}
use Rattle.tree_model.proofs.Lawful.{path_length}
use Rattle.tree_model.proofs.Orders.{keys_total, tied_key}
use Rattle.tree_model.proofs.Grafts.{get-children}
use Rattle.tree_model.proofs.Existence.{exists_is_not_null, exists_from_not_null, non_null-some, non_null-null, by_null, found_at_or_below}
use Rattle.tree_model.proofs.Lookups.{sub-sub, sub-null}
use Rattle.rules_reader.proofs.Standing.{exists-below}
use Rattle.judge.specs.Tests.{failing}
use Rattle.judge.specs.declared.validate.Failure.{Failure}
use Rattle.judge.specs.Working.Refused.{Ask}
use Rattle.judge.specs.Working.Found.{Fault, IsFirst, Found, FailsFrom, Below, FaultsHere, IsToldBelow, place_of, fault_of}
use Rattle.judge.proofs.Order.{IsIn, Left, NoneBefore, Ascending, first_below, one_less, none_at_all, first_at_root}

-- ---- answers in other words

pub found_as : (P Q : Path → Fault → Type 0) (o : Option Failure) → ((q : Path) (w : Fault) → Q q w → P q w) → ((q : Path) (w : Fault) → P q w → Q q w) → Found Q o → Found P o
found_as P Q None up down h = λ q w p. h q w (down q w p)
found_as P Q (Some f) up down h = record { fails = up (place_of f) (fault_of f) h.fails; least = λ r v p. h.least r v (down r v p) }

pub first_as : (P : Path → Fault → Type 0) (f : Failure) (q : Path) (w : Fault) → place_of f ≡ q → fault_of f ≡ w → IsFirst P q w → Found P (Some f)
first_as P f q w place fault h = subst (λ (p : Path). IsFirst P p (fault_of f)) (sym place) (subst (IsFirst P q) (sym fault) h)

-- ---- what is reported

pub found_none : (P : Path → Fault → Type 0) (o : Option Failure) → o ≡ None → Found P None → Found P o
found_none P o none h = subst (Found P) (sym none) h

pub told_below : (k : Key) (all : Bool) (o p : Option Failure) → all ≡ is_none o → all ≡ false → IsToldBelow k o p → false ≡ is_none p
told_below k all None p told fails below = absurd (false≢true (sym fails ∙ told))
told_below k all (Some f) None told fails below = absurd below
told_below k all (Some f) (Some g) told fails below = refl

-- ---- the keys of the children

in_any : (k : Key) (ks : List Key) → list_any (eq_by_cmp key_cmp k) ks ≡ true → IsIn k ks
in_any k [] h = absurd (false≢true h)
in_any k (l ∷ ls) h =
    elim (eq_by_cmp key_cmp k l) as (λ b. (b ≡ true → k ≡ l) → (b || list_any (eq_by_cmp key_cmp k) ls) ≡ true → (k ≡ l) ⊎ IsIn k ls) [
      | true ↦ λ same _. inl (same refl)
      | false ↦ λ _ g. inr (in_any k ls g)
    ] (tied_key k l) h

-- what exists below a key is below a child
exists_in_child : (t : Tree) (k : Key) (q : Path) → exists t (k ∷ q) ≡ true → IsIn k (child_keys t)
unfolding child_keys
exists_in_child t k q h =
    in_any k (child_keys t)
    (sym (map_of.contains_key-keys (children t) k) ∙ ap is_some (get-children t k ∙ non_null-some (sub t (k ∷ [])) (λ e. exists_is_not_null t (k ∷ q) h (sym (sub-sub t (k ∷ []) q) ∙ ap (λ u. sub u q) e ∙ sub-null q))))

not_after : (k l : Key) → is_lt (key_cmp k l) ≡ true → key_cmp l k ≢ Less
not_after k l h e = elim (key_cmp k l) as (λ o. is_lt o ≡ true → o ≡ ordering_reverse (key_cmp l k) → ⊥) [
  | Less ↦ λ _ g. let r = ap ordering_reverse e in cc
  | Equal ↦ λ g _. cc
  | Greater ↦ λ g _. cc
] h (keys_total.antisymm k l)

none_before : {X : Type 0} (k : Key) (es : List (Key × X)) → below_all key_cmp k es ≡ true → NoneBefore k (map (λ e. e.0) es)
none_before k [] h = tt
none_before k (e ∷ es) h = (not_after k e.0 (first_so _ _ h), none_before k es (second_so _ _ h))

ascending : {X : Type 0} (es : List (Key × X)) → is_sorted key_cmp es ≡ true → Ascending (map (λ e. e.0) es)
ascending [] h = tt
ascending (e ∷ es) h = (none_before e.0 es (first_so _ _ h), ascending es (second_so _ _ h))

true_from_T : (b : Bool) → T b → b ≡ true
true_from_T true h = refl
true_from_T false h = absurd h

child_keys_ascend : (t : Tree) → Ascending (child_keys t)
unfolding child_keys
child_keys_ascend t = ascending (map_of.entries (children t)) (true_from_T _ (map_of.entries_sorted (children t)))

-- ---- the children of a node, one after another

drop_suc : (ks : List Key) (i : ℕ) (k : Key) → Some k ≡ slice_get ks i → drop i ks ≡ k ∷ drop (suc i) ks
drop_suc [] i k h = cc
drop_suc (x ∷ xs) zero k h = cc
drop_suc (x ∷ xs) (suc i) k h = drop_suc xs i k h

drop_at : (ks : List Key) (i : ℕ) (k : Key) → Some k ≡ slice_get ks i → drop i ks ≡ k ∷ drop (i + 1) ks
drop_at ks i k h = drop_suc ks i k h ∙ ap (λ n. k ∷ drop n ks) (sym (add-one i))

ascending_drop : (ks : List Key) (i : ℕ) → Ascending ks → Ascending (drop i ks)
ascending_drop [] zero h = tt
ascending_drop [] (suc i) h = tt
ascending_drop (x ∷ xs) zero h = h
ascending_drop (x ∷ xs) (suc i) h = ascending_drop xs i h.1

nothing_left : (ks : List Key) (i : ℕ) → length ks ≤ i → drop i ks ≡ []
nothing_left [] zero h = refl
nothing_left [] (suc i) h = refl
nothing_left (x ∷ xs) zero h = absurd (omega arith)
nothing_left (x ∷ xs) (suc i) h = nothing_left xs i (omega arith)

pub key_there : (ks : List Key) (i : ℕ) → i < length ks → ¬ (None ≡ slice_get ks i)
key_there [] i l h = omega arith
key_there (x ∷ xs) zero l h = cc
key_there (x ∷ xs) (suc i) l h = key_there xs i (omega arith) h

-- ---- what exists, and where

tree_is_null : (u : Tree) → None ≡ non_null u → u ≡ null
unfolding non_null
tree_is_null u h = by_null (λ b. None ≡ cond b None (Some u) → u ≡ null) u (λ e _. e) (λ _ e. cc) h

some_not_null : (t u : Tree) → Some t ≡ non_null u → u ≢ null
some_not_null t u h e = let none = non_null-null in let same = ap non_null e in cc

tree_is : (t u : Tree) → Some t ≡ non_null u → t ≡ u
unfolding non_null
tree_is t u h = by_test (is_null u) h
  where
    by_test : (b : Bool) → Some t ≡ cond b None (Some u) → t ≡ u
    by_test true e = cc
    by_test false e = cc

-- nothing exists at and below a path where nothing stands
pub nothing_exists : (t : Tree) (from q : Path) → None ≡ non_null (sub t from) → ¬ (exists t (from ++ q) ≡ true)
nothing_exists t from q h e = exists_is_not_null t (from ++ q) e (sym (sub-sub t from q) ∙ ap (λ u. sub u q) (tree_is_null (sub t from) h) ∙ sub-null q)

-- something stands: the path exists
pub path_exists : (t v : Tree) (from : Path) → Some v ≡ non_null (sub t from) → exists t (from ++ []) ≡ true
path_exists t v from h = ap (exists t) (append-nil from) ∙ exists_from_not_null t from (some_not_null v (sub t from) h)

child_exists : (u : Tree) (k : Key) (i : ℕ) → Some k ≡ slice_get (child_keys u) i → sub u (k ∷ []) ≢ null
unfolding child_keys
child_exists u k i h e =
    none_is_not_some (map_of.get (children u) k) (get-children u k ∙ ap non_null e ∙ non_null-null)
    (map_of.contains_key-keys (children u) k ∙ among (map_of.keys (children u)) i h)
  where
    among : (ks : List Key) (j : ℕ) → Some k ≡ slice_get ks j → list_any (eq_by_cmp key_cmp k) ks ≡ true
    among [] j g = cc
    among (x ∷ ks) zero g = let same : k ≡ x = cc in ap (λ b. b || list_any (eq_by_cmp key_cmp k) ks) (ap (eq_by_cmp key_cmp k) (sym same) ∙ ap is_eq (tied_itself keys_total k))
    among (x ∷ ks) (suc j) g = elim (eq_by_cmp key_cmp k x) as (λ b. (b || list_any (eq_by_cmp key_cmp k) ks) ≡ true) [
      | true ↦ refl
      | false ↦ among ks j g
    ]

-- the key of a child leads to a place that exists, so it is less than 32 keys deep
pub room_for_child : (t v : Tree) (from : Path) (k : Key) (i : ℕ) → IsLawful t → Some v ≡ non_null (sub t from) → Some k ≡ slice_get (child_keys v) i → length from < MAX_DEPTH
room_for_child t v from k i lawful h at =
    let some = child_exists (sub t from) k i (at ∙ ap (λ u. slice_get (child_keys u) i) (tree_is v (sub t from) h)) in
    let there : exists t (from ++ k ∷ []) ≡ true = exists_from_not_null t (from ++ k ∷ []) (λ e. some (sub-sub t from (k ∷ []) ∙ e)) in
    let found = found_at_or_below t (from ++ k ∷ []) there in
    let long = path_length ((from ++ k ∷ []) ++ found.0) (lawful.paths _ found.1) in
    omega (arith, long, length-append (from ++ k ∷ []) found.0, length-append from (k ∷ []))

-- a place that exists has at most 32 keys
pub room_for_place : (t : Tree) (q : Path) → IsLawful t → exists t q ≡ true → length q ≤ MAX_DEPTH
room_for_place t q lawful h =
    let found = found_at_or_below t q h in
    let long = path_length (q ++ found.0) (lawful.paths _ found.1) in
    omega (arith, long, length-append q found.0)

-- ---- one key further down

same_place : (from : Path) (k : Key) (q : Path) → (from ++ k ∷ []) ++ q ≡ from ++ k ∷ q
same_place from k q = append_assoc from (k ∷ []) q

pub from_key : (ask : Ask) (t : Tree) (from : Path) (k : Key) (q : Path) (w : Fault) → FailsFrom ask t (from ++ k ∷ []) q w → FailsFrom ask t from (k ∷ q) w
from_key ask t from k q w f = (ap (exists t) (sym (same_place from k q)) ∙ f.0, ap (λ p. failing (ask p)) (sym (same_place from k q)) ∙ f.1)

pub to_key : (ask : Ask) (t : Tree) (from : Path) (k : Key) (q : Path) (w : Fault) → FailsFrom ask t from (k ∷ q) w → FailsFrom ask t (from ++ k ∷ []) q w
to_key ask t from k q w f = (ap (exists t) (same_place from k q) ∙ f.0, ap (λ p. failing (ask p)) (same_place from k q) ∙ f.1)

pub below_key : (ask : Ask) (t : Tree) (from next : Path) (k : Key) (o : Option Failure) → next ≡ from ++ k ∷ [] → Found (FailsFrom ask t next) o → Found (Below k (FailsFrom ask t from)) o
below_key ask t from next k o at h =
    found_as (Below k (FailsFrom ask t from)) (FailsFrom ask t (from ++ k ∷ [])) o (from_key ask t from k) (to_key ask t from k) (subst (λ (p : Path). Found (FailsFrom ask t p) o) at h)

-- nothing answers below a key
pub nothing_below : (ask : Ask) (t : Tree) (from : Path) (k : Key) → ((r : Path) → ask (from ++ k ∷ r) ≡ None) → Found (Below k (FailsFrom ask t from)) None
nothing_below ask t from k none q w f = let silent = ap failing (none q) in let some = f.1 in cc

-- nothing exists
pub nothing_there : (ask : Ask) (t : Tree) (from : Path) → None ≡ non_null (sub t from) → Found (FailsFrom ask t from) None
nothing_there ask t from h q w f = nothing_exists t from q h f.0

-- ---- at the node itself

pub here_as : (ask : Ask) (t v : Tree) (from : Path) (holds : Bool) (o : Option Failure) → Some v ≡ non_null (sub t from) → holds ≡ is_none o → holds ≡ false → FaultsHere ask from o → Found (FailsFrom ask t from) o
here_as ask t v from holds None h told fails here = absurd (false≢true (sym fails ∙ told))
here_as ask t v from holds (Some f) h told fails here =
    first_as (FailsFrom ask t from) f [] (fault_of f) here.0 refl
    (first_at_root (FailsFrom ask t from) (fault_of f) (path_exists t v from h, ap (λ p. failing (ask p)) (append-nil from) ∙ here.1))

pub not_here : (ask : Ask) (t : Tree) (from : Path) → FaultsHere ask from None → (w : Fault) → ¬ (FailsFrom ask t from [] w)
not_here ask t from none w f = let same = ap (λ p. failing (ask p)) (append-nil from) in let some = f.1 in cc

-- ---- one step of a walk over children

-- nothing fails at the root, and what fails below a key fails below one that is left
pub record Ahead (P : Path → Fault → Type 0) (ks : List Key) : Type 0 where
  pub root : (w : Fault) → ¬ (P [] w)
  pub left : Left P ks

pub ahead_at_first : (ask : Ask) (t v : Tree) (from : Path) → Some v ≡ non_null (sub t from) → FaultsHere ask from None → Ahead (FailsFrom ask t from) (drop 0 (child_keys v))
ahead_at_first ask t v from h none = record {
  root = not_here ask t from none;
  left = λ k q w f. exists_in_child v k q (ap (λ u. exists u (k ∷ q)) (tree_is v (sub t from) h) ∙ exists-below t from (k ∷ q) ∙ f.0);
}

pub child_found : (P : Path → Fault → Type 0) (v : Tree) (i : ℕ) (k : Key) (all : Bool) (o p : Option Failure) → Some k ≡ slice_get (child_keys v) i → Ahead P (drop i (child_keys v)) → all ≡ is_none o → all ≡ false → IsToldBelow k o p → Found (Below k P) o → Found P p
child_found P v i k all None p here ahead told fails below found = absurd (false≢true (sym fails ∙ told))
child_found P v i k all (Some f) None here ahead told fails below found = absurd below
child_found P v i k all (Some f) (Some g) here ahead told fails below found =
    let next = drop_at (child_keys v) i k here in
    first_as P g (k ∷ place_of f) (fault_of f) below.0 below.1
    (first_below P k (drop (i + 1) (child_keys v)) (place_of f) (fault_of f) ahead.root (subst (Left P) next ahead.left) (subst Ascending next (ascending_drop (child_keys v) i (child_keys_ascend v))).0 found)

pub child_passed : (P : Path → Fault → Type 0) (v : Tree) (i : ℕ) (k : Key) → Some k ≡ slice_get (child_keys v) i → Ahead P (drop i (child_keys v)) → Found (Below k P) None → Ahead P (drop (i + 1) (child_keys v))
child_passed P v i k here ahead none = record {
  root = ahead.root;
  left = one_less P k (drop (i + 1) (child_keys v)) (subst (Left P) (drop_at (child_keys v) i k here) ahead.left) none;
}

pub all_passed : (P : Path → Fault → Type 0) (v : Tree) (i : ℕ) → length (child_keys v) ≤ i → Ahead P (drop i (child_keys v)) → Found P None
all_passed P v i h ahead = none_at_all P ahead.root (subst (Left P) (nothing_left (child_keys v) i h) ahead.left)
