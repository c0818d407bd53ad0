-- The children of any tree, and the tree of those children.
use Rattle.std.proofs.Common.{◌≡◌, ◌≢◌, ℕ, zero, suc, ◌+◌, ◌≤◌, ◌<◌, Bool, true, false, cond, not, T, List, [], ◌∷◌, map, length, get_or, slice_get, Some, None, Option, unwrap_or, is_some, IsSome, sym, ap, ◌∙◌, subst, refl, arith}
use Rattle.std.specs.List.{AllByRecursion}
use Rattle.std.proofs.lemmas.List.{length-map}
use Rattle.std.specs.Option.{option_map_or}
use Rattle.std.specs.Cmp.{tied_itself, first_so, second_so}
use Rattle.std.specs.FinMap as map_of
use Rattle.std.specs.FinMap.{is_sorted}
use Rattle.tree_model.specs.Key.{Key, key_cmp, is_key}
use Rattle.tree_model.specs.Path.{Path, strip_prefix, is_proper_prefix, is_root, is_path}
use Rattle.tree_model.specs.Primitive.{Primitive}
use Rattle.tree_model.specs.PathMap.{PathMap, get, sub, depth}
use Rattle.tree_model.specs.Tree.{Tree, null, lone, non_null, children, child_keys, IsTree, IsLawful}
use Rattle.tree_model.specs.Children.{graft, AreChildren}
use Rattle.tree_model.proofs.Orders.{keys_total, bytes_eq-self}
use Rattle.tree_model.proofs.Lookups.{get-sub, same_tree, same_below}
use Rattle.tree_model.proofs.Existence.{by_null, some_path, length-le-depth, deepest_path}
use Rattle.tree_model.proofs.Grafts.{get-children, sub-graft, get-graft-root, get-lone-root, get-lone-below}
use Rattle.tree_model.proofs.Lawful.{path_keys, path_length, is_path_from}
use Rattle.json_tree.proofs.Lists.{all_by_recursion}
use Rattle.json_tree.proofs.Places.{find_at}
use Rattle.json_tree.proofs.Building.{tree_from_some}

abbrev entries_of : {X : Type 0} → PathMap X → List (Key × PathMap X)
entries_of t = map_of.entries (children t)

holds : (b : Bool) → T b → b ≡ true
holds true h = refl
holds false h = absurd h

pub children_sorted : {X : Type 0} (t : PathMap X) → is_sorted key_cmp (map_of.entries (children t)) ≡ true
children_sorted t = holds _ (map_of.entries_sorted (children t))

child_at : {X : Type 0} (t : PathMap X) (i : ℕ) (d : Key × PathMap X) → i < length (map_of.entries (children t)) → Some (get_or (map_of.entries (children t)) i d).1 ≡ non_null (sub t ((get_or (map_of.entries (children t)) i d).0 ∷ []))
child_at {X} t i d within =
    let c : Key × PathMap X = get_or (map_of.entries (children t)) i d in
    sym (find_at c.0 (map_of.entries (children t)) i d (children_sorted t) within (tied_itself keys_total c.0)) ∙ sym (map_of.get-entries (children t) c.0) ∙ get-children t c.0

-- what holds of each subtree at a key that is not null holds of the children
pub each_subtree : {X : Type 0} (P : Key × PathMap X → Type 0) (t : PathMap X) → ((k : Key) → sub t (k ∷ []) ≢ map_of.empty → P (k, sub t (k ∷ []))) → AllByRecursion P (map_of.entries (children t))
each_subtree {X} P t h = all_by_recursion P (map_of.entries (children t)) (λ i d within.
    let c : Key × PathMap X = get_or (map_of.entries (children t)) i d in
    let is = tree_from_some (sub t (c.0 ∷ [])) c.1 (child_at t i d within) in
    let F : PathMap X → Type 0 = λ u. P (c.0, u) in
    subst F (sym is.0) (h c.0 is.1))

pub depth-sub : {X : Type 0} (t : PathMap X) (k : Key) → sub t (k ∷ []) ≢ map_of.empty → depth (sub t (k ∷ [])) + 1 ≤ depth t
depth-sub t k some =
    let deepest = deepest_path (sub t (k ∷ [])) some in
    let long = deepest.2 in
    let le = length-le-depth t (k ∷ deepest.0) (ap is_some (sym (get-sub t (k ∷ []) deepest.0)) ∙ deepest.1) in
    omega arith

pub children_depth : {X : Type 0} (t : PathMap X) → AllByRecursion (λ c. depth c.1 + 1 ≤ depth t) (map_of.entries (children t))
children_depth t = each_subtree (λ c. depth c.1 + 1 ≤ depth t) t (depth-sub t)

pub no_children : {X : Type 0} (t : PathMap X) → depth t ≤ 0 → map_of.entries (children t) ≡ []
no_children {X} t h = go (map_of.entries (children t)) (children_depth t)
  where
    go : (cs : List (Key × PathMap X)) → AllByRecursion (λ c. depth c.1 + 1 ≤ depth t) cs → cs ≡ []
    go [] a = refl
    go (c ∷ cs) a = let le = a.0 in absurd (omega arith)

-- ---- a tree is its root's primitive, or its children's tree

unwrap-non_null : {X : Type 0} (t : PathMap X) → unwrap_or (non_null t) map_of.empty ≡ t
unfolding non_null
unwrap-non_null t = by_null (λ b. unwrap_or (cond b None (Some t)) map_of.empty ≡ t) t (λ none. sym none) (λ _. refl)

pub graft-children : {X : Type 0} (t : PathMap X) → get t [] ≡ None → graft (map_of.entries (children t)) ≡ t
graft-children t root = same_below _ t (get-graft-root (map_of.entries (children t)) ∙ sym root) (λ k.
    sub-graft (map_of.entries (children t)) k (children_sorted t)
    ∙ ap (λ o. unwrap_or o map_of.empty) (sym (map_of.get-entries (children t) k) ∙ get-children t k)
    ∙ unwrap-non_null (sub t (k ∷ [])))

graft-nothing : {X : Type 0} → graft {X = X} [] ≡ map_of.empty
unfolding graft
graft-nothing = refl

-- what is not nothing and has no leaf at its root has children
pub are_children : {X : Type 0} (t : PathMap X) → get t [] ≡ None → t ≢ map_of.empty → AreChildren (map_of.entries (children t))
are_children t root some = record {
  some = λ none. some (sym (graft-children t root) ∙ ap graft none ∙ graft-nothing);
  ascending = children_sorted t;
  each = each_subtree (λ c. c.1 ≢ map_of.empty) t (λ k child. child);
}

-- ---- children by their places

-- the child at a place, whose key is this one
pub record IsChildAt {X : Type 0} (t : PathMap X) (i : ℕ) (k : Key) : Type 0 where
  pub within : i < length (map_of.entries (children t))
  pub at : (d : Key × PathMap X) → get_or (map_of.entries (children t)) i d ≡ (k, sub t (k ∷ []))
  pub some : sub t (k ∷ []) ≢ map_of.empty

entry_at : {T : Type 0} (cs : List (Key × T)) (i : ℕ) (k : Key) → Some k ≡ slice_get (map (λ c. c.0) cs) i → (c : Key × T) × ((i < length cs) × ((c.0 ≡ k) × ((d : Key × T) → get_or cs i d ≡ c)))
entry_at [] i k is = cc
entry_at (c ∷ cs) zero k is = (c, (omega arith, (cc, λ d. refl)))
entry_at (c ∷ cs) (suc i) k is =
    let found = entry_at cs i k is in
    let inside = found.1.0 in
    (found.0, (omega arith, (found.1.1.0, λ d. found.1.1.1 d)))

pub child_is_there : {X : Type 0} (t : PathMap X) (i : ℕ) (k : Key) → Some k ≡ slice_get (child_keys t) i → IsChildAt t i k
unfolding child_keys
child_is_there {X} t i k is =
    let found = entry_at (map_of.entries (children t)) i k is in
    let c : Key × PathMap X = found.0 in
    let at = found.1.1.1 in
    let key : c.0 ≡ k = found.1.1.0 in
    let child = subst (λ (e : Key × PathMap X). Some e.1 ≡ non_null (sub t (e.0 ∷ []))) (at c) (child_at t i c found.1.0) in
    let there = tree_from_some (sub t (k ∷ [])) c.1 (subst (λ l. Some c.1 ≡ non_null (sub t (l ∷ []))) key child) in
    record { within = found.1.0; at = λ d. at d ∙ (λ j. (key j, there.0 j)); some = there.1 }

pub length-child_keys : {X : Type 0} (t : PathMap X) → length (child_keys t) ≡ length (map_of.entries (children t))
unfolding child_keys
length-child_keys t = length-map _ _

nothing_below : (o : Option Primitive) → (IsSome o → true ≡ false) → o ≡ None
nothing_below None h = refl
nothing_below (Some v) h = let no_such = h refl in cc

pub lone-root : (t : Tree) (v : Primitive) → IsTree t → get t [] ≡ Some v → lone v ≡ t
lone-root t v h root = same_tree _ t at
  where
    at : (q : Path) → get (lone v) q ≡ get t q
    at [] = get-lone-root v ∙ sym root
    at (k ∷ q) = get-lone-below v k q ∙ sym (nothing_below (get t (k ∷ q)) (λ there. h.apart [] (k ∷ q) (ap is_some root) there))

-- ---- the subtrees of a lawful tree

proper_below : (k : Key) (p q : Path) → is_proper_prefix (k ∷ p) (k ∷ q) ≡ is_proper_prefix p q
proper_below k p q = ap (λ b. option_map_or (λ rest. not (is_root rest)) (cond b (strip_prefix p q) None) false) (bytes_eq-self k)

module _ (t : Tree) (k : Key) (h : IsLawful t) where
  above : (q : Path) → IsSome (get (sub t (k ∷ [])) q) → IsSome (get t (k ∷ q))
  above q there = ap is_some (sym (get-sub t (k ∷ []) q)) ∙ there

  path_below : (q : Path) → is_path (k ∷ q) ≡ true → is_path q ≡ true
  path_below q lawful =
      let long = path_length (k ∷ q) lawful in
      is_path_from q (second_so (is_key k) _ (path_keys (k ∷ q) lawful)) (omega arith)

  pub IsLawful-sub : IsLawful (sub t (k ∷ []))
  IsLawful-sub = record {
    tree = record { apart = λ p q a b. sym (proper_below k p q) ∙ h.tree.apart (k ∷ p) (k ∷ q) (above p a) (above q b) };
    paths = λ q there. path_below q (h.paths (k ∷ q) (above q there));
    primitives = λ q v is. h.primitives (k ∷ q) v (sym (get-sub t (k ∷ []) q) ∙ is);
  }

  pub child_key : sub t (k ∷ []) ≢ null → is_key k ≡ true
  child_key some = let found = some_path (sub t (k ∷ [])) some in first_so (is_key k) _ (path_keys (k ∷ found.0) (h.paths (k ∷ found.0) (above found.0 found.1)))
