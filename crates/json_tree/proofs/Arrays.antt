-- The children of an array, sorted by the bytes of their keys.
use Rattle.std.proofs.Common.{◌≡◌, ℕ, suc, ◌+◌, ◌≤◌, ◌<◌, ◌^◌, ◌⊎◌, inl, inr, Bool, true, false, cond, List, [], ◌∷◌, length, Some, None, Option, unwrap_or, IsPermutation, decimal, sym, ap, ◌∙◌, subst, refl, add-one, arith}
use Rattle.std.specs.List.{All, AllByRecursion, sum_by, flat_map}
use Rattle.std.specs.List.Sorted.{IsSortedBy}
use Rattle.std.specs.FinMap as map_of
use Rattle.std.specs.FinMap.{find, is_sorted}
use Rattle.std.specs.FinMap.Entries.{below_all}
use Rattle.std.specs.Ordering.{is_lt, is_eq, ordering_reverse}
use Rattle.std.specs.declared.cmp.Ordering.{Ordering}
use Rattle.std.specs.declared.cmp.Ordering.TheVariants.{Less, Equal, Greater}
use Rattle.std.specs.Str.{bytes_eq}
use Rattle.std.proofs.lemmas.Fmt.{decimal_injective}
use Rattle.std.proofs.lemmas.Map.Text.{is_eq-slice_cmp}
use Rattle.std.proofs.lemmas.List.Sums.{sum_by-cons}
use Rattle.std.proofs.lemmas.List.Sorted.{sorted_far, ranks_by, All-permutation, sum_by-IsPermutation}
use Rattle.serde_json.specs.Data.{Data, array}
use Rattle.serde_json.specs.View.{view, items_view}
use Rattle.serde_json.specs.declared.value.Value.{Value}
use Rattle.tree_model.specs.declared.limits.TheConstants.{MAX_DEPTH}
use Rattle.tree_model.specs.Key.{Key, key_cmp}
use Rattle.tree_model.specs.Path.{Path, path_cmp}
use Rattle.tree_model.specs.PathMap.{PathMap, get, depth, under}
use Rattle.tree_model.specs.Tree.{Tree}
use Rattle.tree_model.specs.Children.{graft}
use Rattle.tree_model.proofs.Orders.{keys_total, paths_total, same_key, bytes_eq-self}
use Rattle.tree_model.proofs.Choices.{both_so, or_else, or_else-None}
use Rattle.tree_model.proofs.Lookups.{same_tree, get-empty}
use Rattle.tree_model.proofs.Existence.{by_null}
use Rattle.tree_model.proofs.Grafts.{find-append, child_of, get-graft-root}
use Rattle.json_tree.specs.Json.{primitive_in, read_by}
use Rattle.json_tree.specs.Working.Levels.{levels_of_items}
use Rattle.json_tree.specs.Working.Members.{members_at, children_of}
use Rattle.json_tree.proofs.Lists.{all_by_recursion, all_from_recursion, weaker}
use Rattle.json_tree.proofs.Members.{find-under, graft-items_of}
use Rattle.json_tree.proofs.Building.{children_have_room, levels-members_at}

less_or_same : (k l : Key) → is_lt (key_cmp l k) ≡ false → bytes_eq k l ≡ false → is_lt (key_cmp k l) ≡ true
less_or_same k l not_less other =
    go (key_cmp l k) not_less (sym (is_eq-slice_cmp k l) ∙ ap is_eq (keys_total.antisymm k l)) (keys_total.antisymm k l)
  where
    go : (r : Ordering) → is_lt r ≡ false → bytes_eq k l ≡ is_eq (ordering_reverse r) → key_cmp k l ≡ ordering_reverse r → is_lt (key_cmp k l) ≡ true
    go Less h e is = cc
    go Equal h e is = cc
    go Greater h e is = ap is_lt is

module _ {X : Type 0} where
  abbrev one_at : Key → Key × PathMap X → ℕ
  one_at k c = cond (bytes_eq k c.0) 1 0

  -- how many children have a key
  abbrev times : Key → List (Key × PathMap X) → ℕ
  times k cs = sum_by (one_at k) cs

  times-cons : (k : Key) (c : Key × PathMap X) (cs : List (Key × PathMap X)) → times k (c ∷ cs) ≡ one_at k c + times k cs
  times-cons k c cs = sum_by-cons (one_at k) c cs

  -- no key stands twice
  abbrev pub AreApart : List (Key × PathMap X) → Type 0
  AreApart cs = (k : Key) → times k cs ≤ 1

  one-self : (c : Key × PathMap X) → one_at c.0 c ≡ 1
  one-self c = ap (λ b. cond b 1 0) (bytes_eq-self c.0)

  -- a key that no child has is not found, and the other way round
  none_found : (k : Key) (cs : List (Key × PathMap X)) → times k cs ≡ 0 → find key_cmp k cs ≡ None
  none_found k [] h = refl
  none_found k (c ∷ cs) h =
      let total = times-cons k c cs in
      ap (λ b. cond b (Some c.1) (find key_cmp k cs)) (is_eq-slice_cmp k c.0)
      ∙ elim (bytes_eq k c.0) as (λ b. cond b 1 0 + times k cs ≡ 0 → cond b (Some c.1) (find key_cmp k cs) ≡ None) [
        | true ↦ λ e. absurd (omega arith)
        | false ↦ λ e. none_found k cs (omega arith)
      ] (omega arith)

  never_found : (k : Key) (cs : List (Key × PathMap X)) → find key_cmp k cs ≡ None → times k cs ≡ 0
  never_found k [] h = refl
  never_found k (c ∷ cs) h =
      times-cons k c cs
      ∙ elim (bytes_eq k c.0) as (λ b. cond b (Some c.1) (find key_cmp k cs) ≡ None → cond b 1 0 + times k cs ≡ 0) [
        | true ↦ λ e. cc
        | false ↦ λ e. let none = never_found k cs e in omega arith
      ] (ap (λ b. cond b (Some c.1) (find key_cmp k cs)) (sym (is_eq-slice_cmp k c.0)) ∙ h)

  -- ---- the order of the children does not matter to a look-up

  -- each child of this key is the one that is found
  each_is_found : (k : Key) (cs : List (Key × PathMap X)) → times k cs ≤ 1 → AllByRecursion (λ c. bytes_eq k c.0 ≡ true → find key_cmp k cs ≡ Some c.1) cs
  each_is_found k [] h = tt
  each_is_found k (c ∷ cs) h =
      let total = times-cons k c cs in
      let head : find key_cmp k (c ∷ cs) ≡ cond (bytes_eq k c.0) (Some c.1) (find key_cmp k cs) = ap (λ b. cond b (Some c.1) (find key_cmp k cs)) (is_eq-slice_cmp k c.0) in
      let Here : Key × PathMap X → Type 0 = λ e. bytes_eq k e.0 ≡ true → find key_cmp k cs ≡ Some e.1 in
      let There : Bool → Key × PathMap X → Type 0 = λ b e. bytes_eq k e.0 ≡ true → cond b (Some c.1) (find key_cmp k cs) ≡ Some e.1 in (
        λ is. head ∙ ap (λ b. cond b (Some c.1) (find key_cmp k cs)) is,
        weaker (There (bytes_eq k c.0)) (λ e. bytes_eq k e.0 ≡ true → find key_cmp k (c ∷ cs) ≡ Some e.1) (λ e found is. head ∙ found is) cs
            (elim (bytes_eq k c.0) as (λ b. cond b 1 0 + times k cs ≤ 1 → AllByRecursion (There b) cs) [
              | true ↦ λ le. weaker Here (There true) (λ e found is. let none = none_found k cs (omega arith) in let some = found is in cc) cs (each_is_found k cs (omega arith))
              | false ↦ λ le. each_is_found k cs (omega arith)
            ] (omega arith)),
      )

  found_among : (k : Key) (o : Option (PathMap X)) (cs : List (Key × PathMap X)) → AllByRecursion (λ c. bytes_eq k c.0 ≡ true → o ≡ Some c.1) cs → (find key_cmp k cs ≡ None) ⊎ (find key_cmp k cs ≡ o)
  found_among k o [] h = inl refl
  found_among k o (c ∷ cs) h =
      let goes_on = found_among k o cs h.1 in
      subst (λ b. (cond b (Some c.1) (find key_cmp k cs) ≡ None) ⊎ (cond b (Some c.1) (find key_cmp k cs) ≡ o)) (sym (is_eq-slice_cmp k c.0))
      (elim (bytes_eq k c.0) as (λ b. (b ≡ true → o ≡ Some c.1) → (cond b (Some c.1) (find key_cmp k cs) ≡ None) ⊎ (cond b (Some c.1) (find key_cmp k cs) ≡ o)) [
        | true ↦ λ is. inr (sym (is refl))
        | false ↦ λ _. goes_on
      ] h.0)

  find-permutation : (k : Key) (cs ds : List (Key × PathMap X)) → IsPermutation cs ds → AreApart cs → find key_cmp k ds ≡ find key_cmp k cs
  find-permutation k cs ds moved apart =
      let each = all_by_recursion (λ c. bytes_eq k c.0 ≡ true → find key_cmp k cs ≡ Some c.1) ds (All-permutation (λ c. bytes_eq k c.0 ≡ true → find key_cmp k cs ≡ Some c.1) cs ds moved (all_from_recursion _ cs (each_is_found k cs (apart k)))) in
      elim (found_among k (find key_cmp k cs) ds each) [
        | inl none ↦ none ∙ sym (none_found k cs (sym (sum_by-IsPermutation (one_at k) cs ds moved) ∙ never_found k ds none))
        | inr is ↦ is
      ]

  pub apart-permutation : (cs ds : List (Key × PathMap X)) → IsPermutation cs ds → AreApart cs → AreApart ds
  apart-permutation cs ds moved apart k = let same = sum_by-IsPermutation (one_at k) cs ds moved in let le = apart k in omega arith

  -- ---- sorted children that are apart strictly ascend

  below_from : (k : Key) (cs : List (Key × PathMap X)) → AllByRecursion (λ c. is_lt (key_cmp c.0 k) ≡ false) cs → times k cs ≡ 0 → below_all key_cmp k cs ≡ true
  below_from k [] h none = refl
  below_from k (c ∷ cs) h none =
      let total = times-cons k c cs in
      let other : bytes_eq k c.0 ≡ false = elim (bytes_eq k c.0) as (λ b. cond b 1 0 + times k cs ≡ 0 → b ≡ false) [ true ↦ λ e. absurd (omega arith) | false ↦ λ _. refl ] (omega arith) in
      both_so _ _ (less_or_same k c.0 h.0 other) (below_from k cs h.1 (omega arith))

  abbrev Ordered : List (Key × PathMap X) → Type 0
  Ordered [] = Unit {0}
  Ordered (c ∷ cs) = AllByRecursion (λ e. is_lt (key_cmp e.0 c.0) ≡ false) cs × Ordered cs

  abbrev before : Key × PathMap X → Key × PathMap X → Bool
  before a b = is_lt (key_cmp a.0 b.0)

  sorted_tail : (c : Key × PathMap X) (cs : List (Key × PathMap X)) → IsSortedBy before (c ∷ cs) → IsSortedBy before cs
  sorted_tail c cs h k d low high = rw add-one (rw add-one at (h (suc k) d (omega arith) (omega arith)))

  ordered : (cs : List (Key × PathMap X)) → IsSortedBy before cs → Ordered cs
  ordered [] h = tt
  ordered (c ∷ cs) h =
      (all_by_recursion (λ e. is_lt (key_cmp e.0 c.0) ≡ false) cs (λ k d within. sorted_far before (ranks_by keys_total (λ (e : Key × PathMap X). e.0)) (c ∷ cs) h 0 (suc k) d (omega arith) (omega arith)), ordered cs (sorted_tail c cs h))

  ascending_from : (cs : List (Key × PathMap X)) → Ordered cs → AreApart cs → is_sorted key_cmp cs ≡ true
  ascending_from [] h apart = refl
  ascending_from (c ∷ cs) h apart =
      let once = apart c.0 in
      let total = times-cons c.0 c cs in
      let here = one-self c in
      both_so _ _ (below_from c.0 cs h.0 (omega arith)) (ascending_from cs h.1 (λ k. let le = apart k in let sum = times-cons k c cs in omega arith))

  -- ---- the tree of the sorted children

  abbrev spread : List (Key × PathMap X) → List (Path × X)
  spread cs = flat_map (λ c. under c.0 (map_of.entries c.1)) cs

  find-spread : (k : Key) (q : Path) (cs : List (Key × PathMap X)) → AreApart cs → find path_cmp (k ∷ q) (spread cs) ≡ get (child_of k cs) q
  find-spread k q [] apart = sym (get-empty q)
  find-spread k q (c ∷ cs) apart =
      let once = apart k in
      let total = times-cons k c cs in
      let rest : find path_cmp (k ∷ q) (spread cs) ≡ get (child_of k cs) q = find-spread k q cs (λ l. let le = apart l in let sum = times-cons l c cs in omega arith) in
      find-append (k ∷ q) (under c.0 (map_of.entries c.1)) (spread cs)
      ∙ (λ i. or_else (find-under k c.0 q (map_of.entries c.1) i) (rest i))
      ∙ elim (bytes_eq k c.0) as (λ b. cond b 1 0 + times k cs ≤ 1 → or_else (cond b (find path_cmp q (map_of.entries c.1)) None) (get (child_of k cs) q) ≡ get (unwrap_or (cond b (Some c.1) (find key_cmp k cs)) map_of.empty) q) [
        | true ↦ λ le. ap (λ o. or_else (find path_cmp q (map_of.entries c.1)) (get (unwrap_or o map_of.empty) q)) (none_found k cs (omega arith)) ∙ ap (or_else (find path_cmp q (map_of.entries c.1))) (get-empty q) ∙ or_else-None _ ∙ sym (map_of.get-entries c.1 q)
        | false ↦ λ _. refl
      ] (omega arith)
      ∙ ap (λ b. get (unwrap_or (cond b (Some c.1) (find key_cmp k cs)) map_of.empty) q) (sym (is_eq-slice_cmp k c.0))

  get-graft_apart : (cs : List (Key × PathMap X)) (k : Key) (q : Path) → AreApart cs → get (graft cs) (k ∷ q) ≡ get (child_of k cs) q
  unfolding graft
  get-graft_apart cs k q apart = map_of.get-from_entries paths_total (spread cs) (k ∷ q) ∙ find-spread k q cs apart

  pub graft-permutation : (cs ds : List (Key × PathMap X)) → IsPermutation cs ds → AreApart cs → graft ds ≡ graft cs
  graft-permutation cs ds moved apart = same_tree _ _ at
    where
      at : (q : Path) → get (graft ds) q ≡ get (graft cs) q
      at [] = get-graft-root ds ∙ sym (get-graft-root cs)
      at (k ∷ q) =
          get-graft_apart ds k q (apart-permutation cs ds moved apart)
          ∙ ap (λ o. get (unwrap_or o map_of.empty) q) (find-permutation k cs ds moved apart)
          ∙ sym (get-graft_apart cs k q apart)

  pub ascending-permutation : (cs ds : List (Key × PathMap X)) → IsPermutation cs ds → AreApart cs → IsSortedBy before ds → is_sorted key_cmp ds ≡ true
  ascending-permutation cs ds moved apart h = ascending_from ds (ordered ds h) (apart-permutation cs ds moved apart)

-- ---- the indices of an array are apart

other_index : (i j : ℕ) → i < j → j < 2 ^ 64 → bytes_eq (decimal i) (decimal j) ≡ false
other_index i j less within =
    elim (bytes_eq (decimal i) (decimal j)) as (λ b. (b ≡ true → decimal i ≡ decimal j) → b ≡ false) [
      | true ↦ λ same. let e = decimal_injective i j (omega arith) within (same refl) in absurd (omega arith)
      | false ↦ λ _. refl
    ] (same_key (decimal i) (decimal j))

module _ {X : Type 0} (f : Data → Option X) where
  -- an index before i is not among those from i on
  no_earlier_index : (m i : ℕ) (vs : List Value) → m < i → i + length vs ≤ 2 ^ 64 → times (decimal m) (children_of f (members_at i (items_view vs))) ≡ 0
  no_earlier_index m i [] less within = refl
  no_earlier_index m i (v ∷ vs) less within =
      let rest = no_earlier_index m (suc i) vs (omega arith) (omega arith) in
      by_null (λ b. times (decimal m) (cond b (children_of f (members_at (suc i) (items_view vs))) ((decimal i, read_by f (view v)) ∷ children_of f (members_at (suc i) (items_view vs)))) ≡ 0) (read_by f (view v))
      (λ _. rest)
      (λ _. times-cons (decimal m) (decimal i, read_by f (view v)) (children_of f (members_at (suc i) (items_view vs))) ∙ ap (λ b. cond b 1 0 + times (decimal m) (children_of f (members_at (suc i) (items_view vs)))) (other_index m i less (omega arith)) ∙ (let e = rest in omega arith))

  pub indices_apart : (i : ℕ) (vs : List Value) → i + length vs ≤ 2 ^ 64 → AreApart (children_of f (members_at i (items_view vs)))
  indices_apart i [] within k = omega arith
  indices_apart i (v ∷ vs) within k =
      let rest = indices_apart (suc i) vs (omega arith) k in
      let more = children_of f (members_at (suc i) (items_view vs)) in
      by_null (λ b. times k (cond b more ((decimal i, read_by f (view v)) ∷ more)) ≤ 1) (read_by f (view v))
      (λ _. rest)
      (λ _.
      let total = times-cons k (decimal i, read_by f (view v)) more in
      let le : cond (bytes_eq k (decimal i)) 1 0 + times k more ≤ 1 = elim (bytes_eq k (decimal i)) as (λ b. (b ≡ true → k ≡ decimal i) → cond b 1 0 + times k more ≤ 1) [
        | true ↦ λ same. let none : times k more ≡ 0 = ap (λ l. times l more) (same refl) ∙ no_earlier_index i (suc i) vs (omega arith) (omega arith) in omega arith
        | false ↦ λ _. omega arith
      ] (same_key k (decimal i)) in
      omega arith)

  -- ---- an array's children, once they are sorted

  module _ (vs : List Value) (built sorted : List (Key × PathMap X)) (is : built ≡ children_of f (members_at 0 (items_view vs))) (moved : IsPermutation built sorted) (short : length vs < 2 ^ 64) where
    pub moved_from : IsPermutation (children_of f (members_at 0 (items_view vs))) sorted
    moved_from = subst (λ cs. IsPermutation cs sorted) is moved

    apart_in_indices : AreApart (children_of f (members_at 0 (items_view vs)))
    apart_in_indices = indices_apart 0 vs (omega arith)

    pub array_ascending : IsSortedBy before sorted → is_sorted key_cmp sorted ≡ true
    array_ascending h = ascending-permutation _ sorted moved_from apart_in_indices h

    pub array_tree : graft sorted ≡ read_by f (array (items_view vs))
    array_tree = graft-permutation _ sorted moved_from apart_in_indices ∙ graft-items_of f (items_view vs)

pub array_room : (vs : List Value) (built sorted : List (Key × Tree)) → built ≡ children_of primitive_in (members_at 0 (items_view vs)) → IsPermutation built sorted → length vs < 2 ^ 64 → levels_of_items (items_view vs) ≤ MAX_DEPTH + 1 → All (λ c. depth c.1 < MAX_DEPTH) sorted
array_room vs built sorted is moved short h = All-permutation (λ c. depth c.1 < MAX_DEPTH) _ sorted (moved_from primitive_in vs built sorted is moved short) (all_from_recursion (λ c. depth c.1 < MAX_DEPTH) _ (children_have_room (members_at 0 (items_view vs)) (subst (λ n. n ≤ MAX_DEPTH + 1) (sym (levels-members_at 0 (items_view vs))) h)))
