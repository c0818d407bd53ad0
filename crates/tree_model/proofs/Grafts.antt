-- A tree of one primitive, and a tree whose children are given.
use Rattle.std.proofs.Common.{◌≡◌, ◌≢◌, ℕ, ◌+◌, ◌≤◌, max, Bool, true, false, cond, not, ◌&&◌, ◌||◌, T, List, [], ◌∷◌, ◌++◌, map, length, Some, None, Option, option_map, unwrap_or, is_some, IsSome, sym, ap, ◌∙◌, subst, refl, arith}
use Rattle.std.specs.List.{flat_map, filter_map, list_any, AllByRecursion}
use Rattle.std.specs.FinMap as map_of
use Rattle.std.specs.FinMap.{find, is_sorted}
use Rattle.std.specs.FinMap.Entries.{below_all}
use Rattle.std.specs.Cmp.{IsTotalOrder, first_so, second_so}
use Rattle.std.specs.declared.cmp.Ordering.{Ordering}
use Rattle.std.specs.declared.cmp.Ordering.TheVariants.{Less, Equal, Greater}
use Rattle.std.specs.Ordering.{is_eq, is_lt, eq_by_cmp}
use Rattle.std.specs.Str.{bytes_eq}
use Rattle.std.proofs.lemmas.Map.Text.{is_eq-slice_cmp}
use Rattle.std.proofs.lemmas.Bool.{false≢true}
use Rattle.tree_model.specs.Key.{Key, key_cmp}
use Rattle.tree_model.specs.Path.{Path, path_cmp, is_prefix, is_proper_prefix}
use Rattle.tree_model.specs.Primitive.{Primitive}
use Rattle.tree_model.specs.PathMap.{PathMap, get, is_null, sub, exists, greatest, depth, under}
use Rattle.tree_model.specs.Tree.{non_null, lone, first_key, children, child_keys, IsTree}
use Rattle.tree_model.specs.Children.{graft, AreChildren}
use Rattle.tree_model.proofs.Choices.{none_is_not_some, or_else, or_else-None}
use Rattle.tree_model.proofs.Orders.{keys_total, exact_keys, paths_total, same_key, bytes_eq-self, path_eq, path_eq-cons}
use Rattle.tree_model.proofs.Lookups.{same_tree, get-empty, get-sub}
use Rattle.tree_model.proofs.Existence.{non_null-empty, non_null-some, some_path, not_null_from_path, exists-sub, length-le-depth, deepest_path, depth_le}

-- ---- the tree of one primitive

pub get-lone-root : {X : Type 0} (v : X) → get (lone v) [] ≡ Some v
unfolding lone
get-lone-root v = map_of.get-from_entries paths_total (([], v) ∷ []) []

pub get-lone-below : {X : Type 0} (v : X) (k : Key) (q : Path) → get (lone v) (k ∷ q) ≡ None
unfolding lone
get-lone-below v k q = map_of.get-from_entries paths_total (([], v) ∷ []) (k ∷ q)

pub lone≢null : {X : Type 0} (v : X) → lone v ≢ map_of.empty
lone≢null v = not_null_from_path (lone v) [] (ap is_some (get-lone-root v))

pub sub-lone : {X : Type 0} (v : X) (k : Key) → sub (lone v) (k ∷ []) ≡ map_of.empty
sub-lone v k = same_tree _ _ (λ q. get-sub (lone v) (k ∷ []) q ∙ get-lone-below v k q ∙ sym (get-empty q))

pub depth-lone : {X : Type 0} (v : X) → depth (lone v) ≡ 0
depth-lone v = let le = depth_le (lone v) 0 root_alone in omega arith
  where
    root_alone : (q : Path) → IsSome (get (lone v) q) → length q ≤ 0
    root_alone [] h = omega arith
    root_alone (k ∷ q) h = absurd (none_is_not_some _ (get-lone-below v k q) h)

pub IsTree-lone : (v : Primitive) → IsTree (lone v)
IsTree-lone v = record { apart = apart }
  where
    apart : (p q : Path) → IsSome (get (lone v) p) → IsSome (get (lone v) q) → is_proper_prefix p q ≡ false
    apart [] [] h g = refl
    apart [] (k ∷ q) h g = absurd (none_is_not_some _ (get-lone-below v k q) g)
    apart (k ∷ p) q h g = absurd (none_is_not_some _ (get-lone-below v k p) h)

-- ---- the children of any tree

starting : {X : Type 0} (k : Key) (es : List (Path × X)) → (t : PathMap X) → find key_cmp k (filter_map (λ e. option_map (λ l. (l, sub t (l ∷ []))) (first_key e.0)) es) ≡ cond (list_any (is_prefix (k ∷ [])) (map (λ e. e.0) es)) (Some (sub t (k ∷ []))) None
starting k [] t = refl
starting k (([], v) ∷ es) t = starting k es t
starting {X} k ((l ∷ p, v) ∷ es) t =
    let first_keys : List (Key × PathMap X) = filter_map (λ e. option_map (λ l. (l, sub t (l ∷ []))) (first_key e.0)) es in
    ap (λ b. cond b (Some (sub t (l ∷ []))) (find key_cmp k first_keys)) (is_eq-slice_cmp k l)
    ∙ elim (bytes_eq k l) as (λ b. (b ≡ true → k ≡ l) → cond b (Some (sub t (l ∷ []))) (find key_cmp k first_keys) ≡ cond (is_some (cond b (Some p) None) || list_any (is_prefix (k ∷ [])) (map (λ e. e.0) es)) (Some (sub t (k ∷ []))) None) [
      | true ↦ λ same. ap (λ x. Some (sub t (x ∷ []))) (sym (same refl))
      | false ↦ λ _. starting k es t
    ] (same_key k l)

-- the child of a key is the subtree at it
pub get-children : {X : Type 0} (t : PathMap X) (k : Key) → map_of.get (children t) k ≡ non_null (sub t (k ∷ []))
unfolding children exists non_null
get-children t k =
    map_of.get-from_entries keys_total _ k
    ∙ starting k (map_of.entries t) t
    ∙ ap (λ b. cond b (Some (sub t (k ∷ []))) None) (exists-sub t (k ∷ []))
    ∙ elim (is_null (sub t (k ∷ []))) as (λ b. cond (not b) (Some (sub t (k ∷ []))) None ≡ cond b None (Some (sub t (k ∷ [])))) [ true ↦ refl | false ↦ refl ]

-- ---- what stands in a tree of given children

pub find-append : {X : Type 0} (q : Path) (es fs : List (Path × X)) → find path_cmp q (es ++ fs) ≡ or_else (find path_cmp q es) (find path_cmp q fs)
find-append q [] fs = refl
find-append q (e ∷ es) fs = elim (path_eq q e.0) as (λ b. cond b (Some e.1) (find path_cmp q (es ++ fs)) ≡ or_else (cond b (Some e.1) (find path_cmp q es)) (find path_cmp q fs)) [ true ↦ refl | false ↦ find-append q es fs ]

pub find-under-root : {X : Type 0} (l : Key) (es : List (Path × X)) → find path_cmp [] (under l es) ≡ None
find-under-root l [] = refl
find-under-root l (e ∷ es) = find-under-root l es

pub find-under : {X : Type 0} (k l : Key) (q : Path) (es : List (Path × X)) → find path_cmp (k ∷ q) (under l es) ≡ cond (bytes_eq k l) (find path_cmp q es) None
find-under {X} k l q [] = elim (bytes_eq k l) as (λ b. find {X = X} path_cmp (k ∷ q) (under l []) ≡ cond b (find {X = X} path_cmp q []) None) [ true ↦ refl | false ↦ refl ]
find-under k l q (e ∷ es) =
    (λ i. cond (path_eq-cons k l q e.0 i) (Some e.1) (find-under k l q es i))
    ∙ elim (bytes_eq k l) as (λ b. cond (b && path_eq q e.0) (Some e.1) (cond b (find path_cmp q es) None) ≡ cond b (find path_cmp q (e ∷ es)) None) [ true ↦ refl | false ↦ refl ]

-- the pairs of maps, each below its key
abbrev pub spread : {X : Type 0} → List (Key × PathMap X) → List (Path × X)
spread cs = flat_map (λ c. under c.0 (map_of.entries c.1)) cs

pub find-spread-root : {X : Type 0} (cs : List (Key × PathMap X)) → find path_cmp [] (spread cs) ≡ None
find-spread-root [] = refl
find-spread-root (c ∷ cs) = find-append [] (under c.0 (map_of.entries c.1)) (spread cs) ∙ (λ i. or_else (find-under-root c.0 (map_of.entries c.1) i) (find-spread-root cs i))

less_is_not_equal : (r : Ordering) → is_lt r ≡ true → is_eq r ≡ false
less_is_not_equal Less h = refl
less_is_not_equal Equal h = absurd (false≢true h)
less_is_not_equal Greater h = refl

-- a key below all keys is not among them
pub find_below : {X : Type 0} (k : Key) (cs : List (Key × X)) → below_all key_cmp k cs ≡ true → find key_cmp k cs ≡ None
find_below k [] h = refl
find_below k (c ∷ cs) h = ap (λ b. cond b (Some c.1) (find key_cmp k cs)) (less_is_not_equal _ (first_so _ _ h)) ∙ find_below k cs (second_so _ _ h)

pub find_beyond : {X : Type 0} (k : Key) (c : Key × X) (cs : List (Key × X)) → is_sorted key_cmp (c ∷ cs) ≡ true → bytes_eq k c.0 ≡ true → find key_cmp k cs ≡ None
find_beyond k c cs h e = find_below k cs (subst (λ x. below_all key_cmp x cs ≡ true) (sym (same_key k c.0 e)) (first_so _ _ h))

-- the child of a key, or nothing
abbrev pub child_of : {X : Type 0} → Key → List (Key × PathMap X) → PathMap X
child_of k cs = unwrap_or (find key_cmp k cs) map_of.empty

pub find-spread : {X : Type 0} (k : Key) (q : Path) (cs : List (Key × PathMap X)) → is_sorted key_cmp cs ≡ true → find path_cmp (k ∷ q) (spread cs) ≡ get (child_of k cs) q
find-spread k q [] h = sym (get-empty q)
find-spread {X} k q (c ∷ cs) h =
    find-append (k ∷ q) (under c.0 (map_of.entries c.1)) (spread cs)
    ∙ (λ i. or_else (find-under k c.0 q (map_of.entries c.1) i) (find-spread k q cs (second_so _ _ h) i))
    ∙ elim (bytes_eq k c.0) as (λ b. (b ≡ true → find key_cmp k cs ≡ None) → or_else (cond b (find path_cmp q (map_of.entries c.1)) None) (get (child_of k cs) q) ≡ get (unwrap_or (cond b (Some c.1) (find key_cmp k cs)) map_of.empty) q) [
      | true ↦ λ none. ap (λ (o : Option (PathMap X)). or_else (find path_cmp q (map_of.entries c.1)) (get (unwrap_or o map_of.empty) q)) (none refl) ∙ ap (or_else (find path_cmp q (map_of.entries c.1))) (get-empty q) ∙ or_else-None _ ∙ sym (map_of.get-entries c.1 q)
      | false ↦ λ _. refl
    ] (find_beyond k c cs h)
    ∙ ap (λ b. get (unwrap_or (cond b (Some c.1) (find key_cmp k cs)) map_of.empty) q) (sym (is_eq-slice_cmp k c.0))

pub get-graft-root : {X : Type 0} (cs : List (Key × PathMap X)) → get (graft cs) [] ≡ None
unfolding graft
get-graft-root cs = map_of.get-from_entries paths_total (spread cs) [] ∙ find-spread-root cs

-- below a key, the graft has what the child of that key has
pub get-graft : {X : Type 0} (cs : List (Key × PathMap X)) (k : Key) (q : Path) → is_sorted key_cmp cs ≡ true → get (graft cs) (k ∷ q) ≡ get (child_of k cs) q
unfolding graft
get-graft cs k q h = map_of.get-from_entries paths_total (spread cs) (k ∷ q) ∙ find-spread k q cs h

pub sub-graft : {X : Type 0} (cs : List (Key × PathMap X)) (k : Key) → is_sorted key_cmp cs ≡ true → sub (graft cs) (k ∷ []) ≡ child_of k cs
sub-graft cs k h = same_tree _ _ (λ q. get-sub (graft cs) (k ∷ []) q ∙ get-graft cs k q h)

pub non_null-child_of : {X : Type 0} (k : Key) (cs : List (Key × PathMap X)) → AllByRecursion (λ c. c.1 ≢ map_of.empty) cs → non_null (child_of k cs) ≡ find key_cmp k cs
non_null-child_of k [] h = non_null-empty
non_null-child_of k (c ∷ cs) h =
    elim (eq_by_cmp key_cmp k c.0) as (λ b. non_null (unwrap_or (cond b (Some c.1) (find key_cmp k cs)) map_of.empty) ≡ cond b (Some c.1) (find key_cmp k cs)) [
      | true ↦ non_null-some c.1 h.0
      | false ↦ non_null-child_of k cs h.1
    ]

-- the child of a key is the one that was given with it
pub child-graft : {X : Type 0} (cs : List (Key × PathMap X)) (k : Key) → AreChildren cs → non_null (sub (graft cs) (k ∷ [])) ≡ find key_cmp k cs
child-graft cs k h = ap non_null (sub-graft cs k h.ascending) ∙ non_null-child_of k cs h.each

pub graft≢null : {X : Type 0} (cs : List (Key × PathMap X)) → AreChildren cs → graft cs ≢ map_of.empty
graft≢null [] h = absurd (h.some refl)
graft≢null (c ∷ cs) h =
    let found = some_path c.1 h.each.0 in
    let here : child_of c.0 (c ∷ cs) ≡ c.1 = ap (λ b. unwrap_or (cond b (Some c.1) (find key_cmp c.0 cs)) map_of.empty) (is_eq-slice_cmp c.0 c.0 ∙ bytes_eq-self c.0) in
    not_null_from_path (graft (c ∷ cs)) (c.0 ∷ found.0) (ap is_some (get-graft (c ∷ cs) c.0 found.0 h.ascending ∙ ap (λ t. get t found.0) here) ∙ found.1)

-- ---- the keys of the children

sorted_test : (b : Bool) → b ≡ true → T b
sorted_test b h = subst T (sym h) tt

-- the map of entries in order has these entries
pub entries-sorted : {K X : Type 0} {R : K → K → Ordering} (o : IsTotalOrder R) → map_of.IsAntisymmetric R → (es : List (K × X)) → is_sorted R es ≡ true → map_of.entries (map_of.from_entries {R = R} es) ≡ es
entries-sorted {R = R} o exact es h =
    ap map_of.entries (map_of.same_map o exact _ (map_of.from_sorted {R = R} es) (λ q. map_of.get-from_entries o es q ∙ sym (map_of.get-from_sorted R es q (sorted_test _ h))))
    ∙ map_of.entries-from_sorted R es (sorted_test _ h)

pub entries-children-graft : {X : Type 0} (cs : List (Key × PathMap X)) → AreChildren cs → map_of.entries (children (graft cs)) ≡ cs
entries-children-graft cs h =
    ap map_of.entries (map_of.same_map keys_total exact_keys (children (graft cs)) (map_of.from_entries cs) (λ k. get-children (graft cs) k ∙ child-graft cs k h ∙ sym (map_of.get-from_entries keys_total cs k)))
    ∙ entries-sorted keys_total exact_keys cs h.ascending

pub entries-children-lone : {X : Type 0} (v : X) → map_of.entries (children (lone v)) ≡ []
entries-children-lone {X} v =
    ap map_of.entries (map_of.same_map keys_total exact_keys (children (lone v)) (map_of.from_entries []) (λ k. get-children (lone v) k ∙ ap non_null (sub-lone v k) ∙ non_null-empty ∙ sym (map_of.get-from_entries {X = PathMap X} keys_total [] k)))
    ∙ entries-sorted {X = PathMap X} keys_total exact_keys [] refl

pub child_keys-graft : {X : Type 0} (cs : List (Key × PathMap X)) → AreChildren cs → child_keys (graft cs) ≡ map (λ c. c.0) cs
unfolding child_keys
child_keys-graft cs h = ap (λ es. map (λ e. e.0) es) (entries-children-graft cs h)

pub child_keys-lone : {X : Type 0} (v : X) → child_keys (lone v) ≡ []
unfolding child_keys
child_keys-lone v = ap (λ es. map (λ e. e.0) es) (entries-children-lone v)

-- ---- the depth of given children

found_depth : {X : Type 0} (k : Key) (q : Path) (cs : List (Key × PathMap X)) → IsSome (get (child_of k cs) q) → length q + 1 ≤ greatest (map (λ c. depth c.1 + 1) cs)
found_depth k q [] h = absurd (none_is_not_some _ (get-empty q) h)
found_depth k q (c ∷ cs) h =
    elim (eq_by_cmp key_cmp k c.0) as (λ b. IsSome (get (unwrap_or (cond b (Some c.1) (find key_cmp k cs)) map_of.empty) q) → length q + 1 ≤ max (depth c.1 + 1) (greatest (map (λ d. depth d.1 + 1) cs))) [
      | true ↦ λ g. let le = length-le-depth c.1 q g in omega arith
      | false ↦ λ g. let le = found_depth k q cs g in omega arith
    ] h

pub each_depth : {X : Type 0} (n : ℕ) (cs : List (Key × PathMap X)) → is_sorted key_cmp cs ≡ true → AllByRecursion (λ c. c.1 ≢ map_of.empty) cs → ((k : Key) (q : Path) → IsSome (get (child_of k cs) q) → length q + 1 ≤ n) → greatest (map (λ c. depth c.1 + 1) cs) ≤ n
each_depth n [] s a h = omega arith
each_depth {X} n (c ∷ cs) s a h = omega (arith, here, each_depth n cs (second_so _ _ s) a.1 later)
  where
    here : depth c.1 + 1 ≤ n
    here =
        let found = deepest_path c.1 a.0 in
        let is : child_of c.0 (c ∷ cs) ≡ c.1 = ap (λ b. unwrap_or (cond b (Some c.1) (find key_cmp c.0 cs)) map_of.empty) (is_eq-slice_cmp c.0 c.0 ∙ bytes_eq-self c.0) in
        let le = h c.0 found.0 (ap (λ t. is_some (get t found.0)) is ∙ found.1) in
        let long = found.2 in
        omega arith

    later : (k : Key) (q : Path) → IsSome (get (child_of k cs) q) → length q + 1 ≤ n
    later k q g =
        elim (bytes_eq k c.0) as (λ b. bytes_eq k c.0 ≡ b → length q + 1 ≤ n) [
          | true ↦ λ e. absurd (none_is_not_some _ (ap (λ (o : Option (PathMap X)). get (unwrap_or o map_of.empty) q) (find_beyond k c cs s e) ∙ get-empty q) g)
          | false ↦ λ e. h k q (ap (λ b. is_some (get (unwrap_or (cond b (Some c.1) (find key_cmp k cs)) map_of.empty) q)) (is_eq-slice_cmp k c.0 ∙ e) ∙ g)
        ] refl

pub depth-graft : {X : Type 0} (cs : List (Key × PathMap X)) → AreChildren cs → depth (graft cs) ≡ greatest (map (λ c. depth c.1 + 1) cs)
depth-graft cs h = omega (arith, depth_le (graft cs) (greatest (map (λ c. depth c.1 + 1) cs)) within, each_depth (depth (graft cs)) cs h.ascending h.each reached)
  where
    within : (q : Path) → IsSome (get (graft cs) q) → length q ≤ greatest (map (λ c. depth c.1 + 1) cs)
    within [] g = omega arith
    within (k ∷ q) g = let le = found_depth k q cs (ap is_some (sym (get-graft cs k q h.ascending)) ∙ g) in omega arith

    reached : (k : Key) (q : Path) → IsSome (get (child_of k cs) q) → length q + 1 ≤ depth (graft cs)
    reached k q g = let le = length-le-depth (graft cs) (k ∷ q) (ap is_some (get-graft cs k q h.ascending) ∙ g) in omega arith
