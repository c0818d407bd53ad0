-- The levels of a value are one more than the depth of its tree, or none.
use Rattle.std.proofs.Common.{◌≡◌, ℕ, zero, suc, ◌+◌, ◌-◌, ◌≤◌, ◌<◌, max, true, false, cond, List, [], ◌∷◌, ◌++◌, map, length, Some, None, option_map, is_some, IsSome, decimal, sym, ap, ◌∙◌, refl, arith}
use Rattle.std.specs.Option.{option_map_or}
use Rattle.std.specs.FinMap as map_of
use Rattle.std.specs.FinMap.{find}
use Rattle.serde_json.specs.Data.{Data, null, boolean, number, string, array, object, Items, no_items, item, Members, no_members, member}
use Rattle.tree_model.specs.Key.{Key}
use Rattle.tree_model.specs.Path.{Path, path_cmp}
use Rattle.tree_model.specs.Primitive.{Primitive, whole}
use Rattle.tree_model.specs.PathMap.{PathMap, get, greatest, depth, under}
use Rattle.tree_model.proofs.Orders.{paths_total, path_eq, path_eq-self, same_path}
use Rattle.tree_model.proofs.Existence.{length-le-depth, depth_le}
use Rattle.json_tree.specs.Json.{whole_of, primitive_in, leaves, leaves_of_items, leaves_of_members, read_by, of_json}
use Rattle.json_tree.specs.Working.Levels.{raised, levels, levels_of_items, levels_of_members}

abbrev Leaves : Type 0 → Type 0
Leaves X = List (Path × X)

-- one more than the longest path
abbrev pub height : {X : Type 0} → Leaves X → ℕ
height es = greatest (map (λ e. length e.0 + 1) es)

pub height-append : {X : Type 0} (es fs : Leaves X) → height (es ++ fs) ≡ max (height es) (height fs)
height-append [] fs = omega arith
height-append (e ∷ es) fs = omega (arith, height-append es fs)

raised_up : (n : ℕ) → 0 < n → raised n ≡ n + 1
raised_up zero h = absurd (omega arith)
raised_up (suc n) h = omega arith

raised-max : (m n : ℕ) → max (suc m + 1) (raised n) ≡ raised (max (m + 1) n)
raised-max m zero = let up = raised_up (max (m + 1) 0) (omega arith) in omega arith
raised-max m (suc n) = let up = raised_up (max (m + 1) (suc n)) (omega arith) in omega arith

pub height-under : {X : Type 0} (k : Key) (es : Leaves X) → height (under k es) ≡ raised (height es)
height-under k [] = refl
height-under k (e ∷ es) = ap (max (suc (length e.0) + 1)) (height-under k es) ∙ raised-max (length e.0) (height es)

abbrev pairs_of : Data → Leaves Primitive
pairs_of d = leaves primitive_in d

mutual
  pub height-pairs_of : (d : Data) → height (pairs_of d) ≡ levels d
  height-pairs_of null = refl
  height-pairs_of (boolean b) = omega arith
  height-pairs_of (number n) = elim (whole_of n) as (λ o. height (option_map_or (λ v. ([], v) ∷ []) (option_map whole o) []) ≡ option_map_or (λ z. 1) o 0) [ None ↦ refl | (Some z) ↦ omega arith ]
  height-pairs_of (string s) = omega arith
  height-pairs_of (array ds) = height-pairs_of_items 0 ds
  height-pairs_of (object ms) = height-pairs_of_members ms

  height-pairs_of_items : (i : ℕ) (ds : Items) → height (leaves_of_items primitive_in i ds) ≡ levels_of_items ds
  height-pairs_of_items i no_items = refl
  height-pairs_of_items i (item d ds) =
      height-append (under (decimal i) (pairs_of d)) (leaves_of_items primitive_in (suc i) ds)
      ∙ (λ j. max ((height-under (decimal i) (pairs_of d) ∙ ap raised (height-pairs_of d)) j) (height-pairs_of_items (suc i) ds j))

  height-pairs_of_members : (ms : Members) → height (leaves_of_members primitive_in ms) ≡ levels_of_members ms
  height-pairs_of_members no_members = refl
  height-pairs_of_members (member k d ms) =
      height-append (under k (pairs_of d)) (leaves_of_members primitive_in ms)
      ∙ (λ j. max ((height-under k (pairs_of d) ∙ ap raised (height-pairs_of d)) j) (height-pairs_of_members ms j))

-- ---- the depth of the map of leaves

found_height : {X : Type 0} (q : Path) (es : Leaves X) → IsSome (find path_cmp q es) → length q + 1 ≤ height es
found_height q [] h = cc
found_height q (e ∷ es) h =
    elim (path_eq q e.0) as (λ b. (b ≡ true → q ≡ e.0) → IsSome (cond b (Some e.1) (find path_cmp q es)) → length q + 1 ≤ max (length e.0 + 1) (height es)) [
      | true ↦ λ same _. let long = ap length (same refl) in omega arith
      | false ↦ λ _ g. let le = found_height q es g in omega arith
    ] (same_path q e.0) h

height_le : {X : Type 0} (n : ℕ) (es : Leaves X) → ((q : Path) → IsSome (find path_cmp q es) → length q + 1 ≤ n) → height es ≤ n
height_le n [] h = omega arith
height_le n (e ∷ es) h = omega (arith, h e.0 here, height_le n es (λ q g. h q (later q g)))
  where
    here : IsSome (find path_cmp e.0 (e ∷ es))
    here = ap (λ b. is_some (cond b (Some e.1) (find path_cmp e.0 es))) (path_eq-self e.0)

    later : (q : Path) → IsSome (find path_cmp q es) → IsSome (find path_cmp q (e ∷ es))
    later q g = elim (path_eq q e.0) as (λ b. IsSome (cond b (Some e.1) (find path_cmp q es))) [ true ↦ refl | false ↦ g ]

pub depth-from_entries : {X : Type 0} (es : Leaves X) → depth (map_of.from_entries es) ≡ height es - 1
depth-from_entries {X} es = omega (arith, depth_le t (height es - 1) above, height_le (depth t + 1) es below)
  where
    t : PathMap X
    t = map_of.from_entries es

    above : (q : Path) → IsSome (get t q) → length q ≤ height es - 1
    above q g = let le = found_height q es (ap is_some (sym (map_of.get-from_entries paths_total es q)) ∙ g) in omega arith

    below : (q : Path) → IsSome (find path_cmp q es) → length q + 1 ≤ depth t + 1
    below q g = let le = length-le-depth t q (ap is_some (map_of.get-from_entries paths_total es q) ∙ g) in omega arith

pub depth-of_json : (d : Data) → depth (of_json d) ≡ levels d - 1
unfolding read_by
depth-of_json d = depth-from_entries (pairs_of d) ∙ ap (λ n. n - 1) (height-pairs_of d)
