-- What is asked of a snapshot depends on its path alone, and on what stands there and below.
use Rattle.std.proofs.Common.{◌≡◌, ℕ, List, [], ◌∷◌, ◌++◌, Bool, true, false, cond, not, ◌&&◌, Option, Some, None, is_some, refl, sym, ◌∙◌, ap, subst}
use Rattle.std.specs.Prelude.{option_map, codes, length, nat_le, ◌+◌}
use Rattle.std.specs.Cmp.{both_ways}
use Rattle.std.specs.List.{list_all}
use Rattle.std.specs.Option.{option_and_then}
use Rattle.std.specs.Str.{bytes_eq}
use Rattle.std.proofs.lemmas.List.{append-nil}
use Rattle.tree_model.specs.declared.limits.TheConstants.{MAX_DEPTH}
use Rattle.tree_model.specs.Key.{is_key}
use Rattle.tree_model.specs.Path.{Path}
use Rattle.tree_model.specs.PathMap.{get, is_null, sub}
use Rattle.tree_model.specs.Primitive.{Primitive}
use Rattle.tree_model.specs.Tree.{Tree}
use Rattle.tree_model.proofs.Existence.{exists-sub}
use Rattle.tree_model.proofs.Lookups.{get-sub, sub-sub}
use Rattle.path_capture.specs.Path.{segments}
use Rattle.evaluator.specs.Value.{Value, null, truth, whole, words, sentinel, a_record, Meaning, value, snapshot, as_value}
use Rattle.evaluator.specs.Snapshot.{exists_at, primitive_at, primitive_or_sentinel, val_at, has_children_at, child_at}
use Rattle.evaluator.specs.Members.{member}
use Rattle.evaluator.specs.Calls.{snapshot_test, type_test, snapshot_call, snapshot_call_with, snapshot_call_listed, child_of, has_child, have_children, Given, nothing, one, two, listed, others, called, call_of}
use Rattle.evaluator.proofs.Snapshots.{pair_below, children_above}

-- one and the same; or two trees, seen from one path, with the same there and below
pub data Alike : Option Meaning → Option Meaning → Type 0 where
  same : (m : Option Meaning) → Alike m m
  places : (t u : Tree) (q : Path) → sub t q ≡ sub u q → Alike (Some (snapshot (t, q))) (Some (snapshot (u, q)))

pub equals : {m n : Option Meaning} → m ≡ n → Alike m n
equals {m} e = subst (λ (o : Option Meaning). Alike m o) e (same m)

-- what a method of this name gives, but `val`
abbrev but_val : List ℕ → Bool → Bool → Option Primitive → Option Value
but_val f b c o = cond (bytes_eq (codes "exists") f) (Some (truth b)) (cond (bytes_eq (codes "hasChildren") f) (Some (truth c)) (type_test f o))

-- ---- what stands there and below

module _ (t u : Tree) (q : Path) (below : sub t q ≡ sub u q) where
  get_same : (r : Path) → get t (q ++ r) ≡ get u (q ++ r)
  get_same r = sym (get-sub t q r) ∙ ap (λ v. get v r) below ∙ get-sub u q r

  primitive_same : primitive_at (t, q) ≡ primitive_at (u, q)
  primitive_same = sym (ap (get t) (append-nil q)) ∙ get_same [] ∙ ap (get u) (append-nil q)

  exists_same : exists_at (t, q) ≡ exists_at (u, q)
  exists_same = exists-sub t q ∙ ap (λ v. not (is_null v)) below ∙ sym (exists-sub u q)

  val_same : val_at (t, q) ≡ val_at (u, q)
  val_same = ap (λ b. cond b (primitive_or_sentinel (primitive_at (t, q))) null) exists_same ∙ ap (λ o. cond (exists_at (u, q)) (primitive_or_sentinel o) null) primitive_same

  children_kept : has_children_at (t, q) ≡ true → has_children_at (u, q) ≡ true
  children_kept h = let r = pair_below (t, q) h in children_above (u, q) r.0 r.1 (ap is_some (sym (get_same r.0)) ∙ r.2)

module _ (t u : Tree) (q : Path) (below : sub t q ≡ sub u q) where
  children_same : has_children_at (t, q) ≡ has_children_at (u, q)
  children_same = both_ways (has_children_at (t, q)) (has_children_at (u, q)) (children_kept t u q below) (children_kept u t q (sym below))

  further : (r : Path) → sub t (q ++ r) ≡ sub u (q ++ r)
  further r = sym (sub-sub t q r) ∙ ap (λ v. sub v r) below ∙ sub-sub u q r

  -- ---- calls of a snapshot

  test_same : (f : List ℕ) → snapshot_test f (t, q) ≡ snapshot_test f (u, q)
  unfolding snapshot_test
  test_same f =
      ap (λ v. cond (bytes_eq (codes "val") f) (Some v) (but_val f (exists_at (t, q)) (has_children_at (t, q)) (primitive_at (t, q)))) (val_same t u q below)
      ∙ ap (λ b. cond (bytes_eq (codes "val") f) (Some (val_at (u, q))) (but_val f b (has_children_at (t, q)) (primitive_at (t, q)))) (exists_same t u q below)
      ∙ ap (λ b. cond (bytes_eq (codes "val") f) (Some (val_at (u, q))) (but_val f (exists_at (u, q)) b (primitive_at (t, q)))) children_same
      ∙ ap (λ o. cond (bytes_eq (codes "val") f) (Some (val_at (u, q))) (but_val f (exists_at (u, q)) (has_children_at (u, q)) o)) (primitive_same t u q below)

  call_alike : (f : List ℕ) → bytes_eq (codes "parent") f ≡ false → Alike (snapshot_call f (t, q)) (snapshot_call f (u, q))
  unfolding snapshot_call
  call_alike f e = rw e (equals (ap (option_map value) (test_same f)))

  child_alike : (text : List ℕ) → Alike (option_map snapshot (child_at (t, q) text)) (option_map snapshot (child_at (u, q) text))
  child_alike text =
      elim (list_all is_key (segments text) && nat_le (length q + length (segments text)) MAX_DEPTH) as (λ b. Alike (option_map snapshot (cond b (Some (t, q ++ segments text)) None)) (option_map snapshot (cond b (Some (u, q ++ segments text)) None))) [
        | true ↦ places t u (q ++ segments text) (further (segments text))
        | false ↦ same None
      ]

  child_of_alike : (v : Value) → Alike (option_map snapshot (child_of (t, q) v)) (option_map snapshot (child_of (u, q) v))
  child_of_alike null = same None
  child_of_alike (truth b) = same None
  child_of_alike (whole z) = same None
  child_of_alike (words s) = child_alike s
  child_of_alike sentinel = same None
  child_of_alike a_record = same None

  child_exists : (text : List ℕ) → option_map exists_at (child_at (t, q) text) ≡ option_map exists_at (child_at (u, q) text)
  child_exists text =
      elim (list_all is_key (segments text) && nat_le (length q + length (segments text)) MAX_DEPTH) as (λ b. option_map exists_at (cond b (Some (t, q ++ segments text)) None) ≡ option_map exists_at (cond b (Some (u, q ++ segments text)) None)) [
        | true ↦ ap Some (exists_same t u (q ++ segments text) (further (segments text)))
        | false ↦ refl
      ]

  has_child_same : (v : Value) → has_child (t, q) v ≡ has_child (u, q) v
  unfolding has_child
  has_child_same null = refl
  has_child_same (truth b) = refl
  has_child_same (whole z) = refl
  has_child_same (words s) = child_exists s
  has_child_same sentinel = refl
  has_child_same a_record = refl

  have_children_same : (vs : List Value) → have_children (t, q) vs ≡ have_children (u, q) vs
  unfolding have_children
  have_children_same [] = refl
  have_children_same (v ∷ vs) =
      ap (λ o. option_and_then (λ b. option_map (λ c. b && c) o) (has_child (t, q) v)) (have_children_same vs)
      ∙ ap (λ o. option_and_then (λ b. option_map (λ c. b && c) (have_children (u, q) vs)) o) (has_child_same v)

  call_with_alike : (f : List ℕ) (v : Value) → Alike (snapshot_call_with f (t, q) v) (snapshot_call_with f (u, q) v)
  unfolding snapshot_call_with
  call_with_alike f v =
      elim (bytes_eq (codes "child") f) as (λ b. Alike (cond b (option_map snapshot (child_of (t, q) v)) (cond (bytes_eq (codes "hasChild") f) (option_map (λ c. value (truth c)) (has_child (t, q) v)) None)) (cond b (option_map snapshot (child_of (u, q) v)) (cond (bytes_eq (codes "hasChild") f) (option_map (λ c. value (truth c)) (has_child (u, q) v)) None))) [
        | true ↦ child_of_alike v
        | false ↦ equals (ap (λ o. cond (bytes_eq (codes "hasChild") f) (option_map (λ c. value (truth c)) o) None) (has_child_same v))
      ]

  listed_same : (f : List ℕ) (vs : List Value) → snapshot_call_listed f (t, q) vs ≡ snapshot_call_listed f (u, q) vs
  unfolding snapshot_call_listed
  listed_same f vs = ap (λ o. cond (bytes_eq (codes "hasChildren") f) (option_map truth o) None) (have_children_same vs)

  place_called : (f : List ℕ) (g : Given) → bytes_eq (codes "parent") f ≡ false → Alike (call_of f (snapshot (t, q)) g) (call_of f (snapshot (u, q)) g)
  place_called f nothing e = call_alike f e
  place_called f (one None) e = same None
  place_called f (one (Some v)) e = call_with_alike f v
  place_called f (two None n) e = same None
  place_called f (two (Some v) None) e = same None
  place_called f (two (Some v) (Some w)) e = same None
  place_called f (listed None) e = same None
  place_called f (listed (Some vs)) e = equals (ap (option_map value) (listed_same f vs))
  place_called f others e = same None

-- ---- all parts

pub called_alike : (f : List ℕ) (g : Given) {m n : Option Meaning} → bytes_eq (codes "parent") f ≡ false → Alike m n → Alike (called f m g) (called f n g)
called_alike f g e (same m) = same (called f m g)
called_alike f g e (places t u q below) = place_called t u q below f g e

pub member_alike : (f : List ℕ) {m n : Option Meaning} → Alike m n → Alike (option_and_then (member f) m) (option_and_then (member f) n)
member_alike f (same m) = same (option_and_then (member f) m)
member_alike f (places t u q below) = same None

pub value_alike : {m n : Option Meaning} → Alike m n → as_value m ≡ as_value n
value_alike (same m) = refl
value_alike (places t u q below) = refl
