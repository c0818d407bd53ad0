-- A child is less deep than the tree.
use Rattle.std.proofs.Common.{◌≡◌, ◌≢◌, ℕ, zero, suc, ◌+◌, ◌≤◌, ◌<◌, T, Bool, true, false, cond, List, ◌∷◌, [], Some, None, length, slice_get, IsSome, sym, ap, ◌∙◌, subst, refl, arith}
use Rattle.std.specs.FinMap as map_of
use Rattle.std.specs.FinMap.{find, is_sorted}
use Rattle.std.specs.Cmp.{second_so, tied_itself}
use Rattle.std.specs.Ordering.{is_eq}
use Rattle.std.specs.Str.{bytes_eq}
use Rattle.std.proofs.lemmas.Map.Text.{is_eq-slice_cmp}
use Rattle.tree_model.specs.Key.{Key, key_cmp}
use Rattle.tree_model.specs.PathMap.{get, sub, depth}
use Rattle.std.proofs.lemmas.List.{length-map}
use Rattle.tree_model.specs.Tree.{Tree, null, non_null, children, child_keys}
use Rattle.tree_model.proofs.Orders.{keys_total}
use Rattle.tree_model.proofs.Grafts.{find_beyond, get-children}
use Rattle.tree_model.proofs.Lookups.{get-sub}
use Rattle.tree_model.proofs.Existence.{by_null, length-le-depth, deepest_path}

some_is : {A : Type 0} (x y : A) → Some x ≡ Some y → x ≡ y
some_is x y e = cc

-- what is not null stands
is_there : (t u : Tree) → non_null t ≡ Some u → (t ≡ u) × (t ≢ null)
unfolding non_null
is_there t u h = by_null (λ b. cond b None (Some t) ≡ Some u → (t ≡ u) × (t ≢ null)) t (λ _ e. cc) (λ n e. (some_is t u e, n)) h

less_deep : (t : Tree) (k : Key) (u : Tree) → map_of.get (children t) k ≡ Some u → non_null (sub t (k ∷ [])) ≡ map_of.get (children t) k → depth u + 1 ≤ depth t
less_deep t k u listed is =
    let there = is_there (sub t (k ∷ [])) u (is ∙ listed) in
    let deepest = deepest_path (sub t (k ∷ [])) there.1 in
    let stands : IsSome (get t (k ∷ deepest.0)) = subst IsSome (get-sub t (k ∷ []) deepest.0) deepest.1 in
    let long = length-le-depth t (k ∷ deepest.0) stands in
    omega (arith, long, deepest.2, ap depth there.0)

-- ---- the child at an index

found_at : {X : Type 0} (es : List (Key × X)) (i : ℕ) (k : Key) (v : X) → is_sorted key_cmp es ≡ true → slice_get es i ≡ Some (k, v) → find key_cmp k es ≡ Some v
found_at [] i k v h s = cc
found_at (e ∷ es) zero k v h s =
    subst (λ d. find key_cmp k (d ∷ es) ≡ Some v) (sym (some_is e (k, v) s)) (ap (λ b. cond b (Some v) (find key_cmp k es)) (ap is_eq (tied_itself keys_total k)))
found_at (e ∷ es) (suc i) k v h s = behind (found_at es i k v (second_so _ _ h) s)
  where
    never : None ≡ Some v → ⊥
    never q = cc

    behind : find key_cmp k es ≡ Some v → find key_cmp k (e ∷ es) ≡ Some v
    behind rest =
        elim (bytes_eq k e.0) as (λ b. bytes_eq k e.0 ≡ b → find key_cmp k (e ∷ es) ≡ Some v) [
          | true ↦ λ same. absurd (never (sym (find_beyond k e es h same) ∙ rest))
          | false ↦ λ differ. ap (λ b. cond b (Some e.1) (find key_cmp k es)) (is_eq-slice_cmp k e.0 ∙ differ) ∙ rest
        ] refl

from_T : (b : Bool) → T b → b ≡ true
from_T true h = refl
from_T false h = absurd h

pub less_deep_at : (t : Tree) (i : ℕ) (k : Key) (u : Tree) → Some (k, u) ≡ slice_get (map_of.entries (children t)) i → depth u + 1 ≤ depth t
less_deep_at t i k u at =
    less_deep t k u (map_of.get-entries (children t) k ∙ found_at (map_of.entries (children t)) i k u (from_T _ (map_of.entries_sorted (children t))) (sym at)) (sym (get-children t k))

pub entry_there : {X : Type 0} (xs : List X) (i : ℕ) → i < length xs → None ≡ slice_get xs i → ⊥
entry_there [] i l h = absurd (omega (arith, l))
entry_there (x ∷ xs) zero l h = cc
entry_there (x ∷ xs) (suc i) l h = entry_there xs i (omega (arith, l)) h

-- a tree has as many children as keys of children
pub as_many_keys : (t : Tree) → length (child_keys t) ≡ length (map_of.entries (children t))
unfolding child_keys
as_many_keys t = length-map (map_of.entries (children t)) (λ (e : Key × Tree). e.0)
