-- What a tree of lawful parts is.
use Rattle.std.proofs.Common.{◌≡◌, ◌≤◌, true, false, cond, not, List, [], ◌∷◌, ◌++◌, length, Some, None, unwrap_or, is_some, IsSome, sym, ap, ◌∙◌, subst, refl, arith}
use Rattle.std.specs.List.{list_all, AllByRecursion}
use Rattle.std.specs.Option.{option_map_or}
use Rattle.std.specs.FinMap.{find, is_sorted}
use Rattle.std.specs.Ordering.{eq_by_cmp}
use Rattle.std.specs.Cmp.{first_so, second_so}
use Rattle.std.specs.Str.{bytes_eq}
use Rattle.std.proofs.lemmas.Bool.{leb-true, le-leb}
use Rattle.tree_model.specs.declared.limits.TheConstants.{MAX_DEPTH}
use Rattle.tree_model.specs.Key.{Key, key_cmp, is_key}
use Rattle.tree_model.specs.Path.{Path, strip_prefix, is_proper_prefix, is_root, is_path}
use Rattle.tree_model.specs.Primitive.{Primitive, is_primitive}
use Rattle.tree_model.specs.PathMap.{get}
use Rattle.tree_model.specs.Tree.{Tree, null, lone, IsTree, IsLawful}
use Rattle.tree_model.specs.Children.{graft, IsLawfulChild}
use Rattle.tree_model.proofs.Choices.{both_so, none_is_not_some}
use Rattle.tree_model.proofs.Orders.{same_key, tied_key}
use Rattle.tree_model.proofs.Lookups.{get-null}
use Rattle.tree_model.proofs.Existence.{length-le-depth}
use Rattle.tree_model.proofs.Grafts.{IsTree-lone, get-lone-root, get-lone-below, child_of, get-graft-root, get-graft}

-- ---- lawful paths

pub path_keys : (p : Path) → is_path p ≡ true → list_all is_key p ≡ true
unfolding is_path
path_keys p h = first_so _ _ h

pub path_length : (p : Path) → is_path p ≡ true → length p ≤ MAX_DEPTH
unfolding is_path
path_length p h = leb-true (length p) MAX_DEPTH (second_so (list_all is_key p) _ h)

pub is_path_from : (p : Path) → list_all is_key p ≡ true → length p ≤ MAX_DEPTH → is_path p ≡ true
unfolding is_path
is_path_from p keys long = both_so _ _ keys (le-leb (length p) MAX_DEPTH long)

pub keys-append : (p q : Path) → list_all is_key p ≡ true → list_all is_key q ≡ true → list_all is_key (p ++ q) ≡ true
keys-append [] q h g = g
keys-append (k ∷ p) q h g = both_so _ _ (first_so _ _ h) (keys-append p q (second_so _ _ h) g)

-- ---- the tree of one primitive

pub IsLawful-null : IsLawful null
IsLawful-null = record {
  tree = record { apart = λ p q h g. absurd (none_is_not_some _ (get-null p) h) };
  paths = λ p h. absurd (none_is_not_some _ (get-null p) h);
  primitives = λ p v e. absurd (none_is_not_some _ (get-null p) (ap is_some e));
}

pub IsLawful-lone : (v : Primitive) → is_primitive v ≡ true → IsLawful (lone v)
IsLawful-lone v h = record { tree = IsTree-lone v; paths = paths; primitives = primitives }
  where
    paths : (p : Path) → IsSome (get (lone v) p) → is_path p ≡ true
    paths [] g = is_path_from [] refl (omega arith)
    paths (k ∷ p) g = absurd (none_is_not_some _ (get-lone-below v k p) g)

    primitives : (p : Path) (w : Primitive) → get (lone v) p ≡ Some w → is_primitive w ≡ true
    primitives [] w e = let same : v ≡ w = some_same v w (sym (get-lone-root v) ∙ e) in ap is_primitive (sym same) ∙ h
      where
        some_same : (a b : Primitive) → Some a ≡ Some b → a ≡ b
        some_same a b q = cc
    primitives (k ∷ p) w e = absurd (none_is_not_some _ (get-lone-below v k p) (ap is_some e))

-- ---- given children

-- a primitive of a child stands in one of the children
child_has : (P : Key → Tree → Type 0) (cs : List (Key × Tree)) → AllByRecursion (λ c. P c.0 c.1) cs → (k : Key) (q : Path) → IsSome (get (child_of k cs) q) → P k (child_of k cs)
child_has P [] h k q g = absurd (none_is_not_some _ (get-null q) g)
child_has P (c ∷ cs) h k q g =
    elim (eq_by_cmp key_cmp k c.0) as (λ b. (b ≡ true → k ≡ c.0) → IsSome (get (unwrap_or (cond b (Some c.1) (find key_cmp k cs)) null) q) → P k (unwrap_or (cond b (Some c.1) (find key_cmp k cs)) null)) [
      | true ↦ λ same _. let F : Key → Type 0 = λ x. P x c.1 in subst F (sym (same refl)) h.0
      | false ↦ λ _ d. child_has P cs h.1 k q d
    ] (tied_key k c.0) g

pub IsTree-graft : (cs : List (Key × Tree)) → is_sorted key_cmp cs ≡ true → AllByRecursion (λ c. IsTree c.1) cs → IsTree (graft cs)
IsTree-graft cs s h = record { apart = apart }
  where
    apart : (p q : Path) → IsSome (get (graft cs) p) → IsSome (get (graft cs) q) → is_proper_prefix p q ≡ false
    apart [] q a b = absurd (none_is_not_some _ (get-graft-root cs) a)
    apart (k ∷ p) [] a b = refl
    apart (k ∷ p) (l ∷ q) a b =
        elim (bytes_eq k l) as (λ e. (e ≡ true → k ≡ l) → option_map_or (λ rest. not (is_root rest)) (cond e (strip_prefix p q) None) false ≡ false) [
          | true ↦ λ same.
              let here : IsSome (get (child_of k cs) p) = ap is_some (sym (get-graft cs k p s)) ∙ a in
              let there : IsSome (get (child_of k cs) q) = ap (λ x. is_some (get (child_of x cs) q)) (same refl) ∙ ap is_some (sym (get-graft cs l q s)) ∙ b in
              (child_has (λ _ t. IsTree t) cs h k p here).apart p q here there
          | false ↦ λ _. refl
        ] (same_key k l)

trees_of : (cs : List (Key × Tree)) → AllByRecursion IsLawfulChild cs → AllByRecursion (λ c. IsTree c.1) cs
trees_of [] h = tt
trees_of (c ∷ cs) h = (h.0.tree.tree, trees_of cs h.1)

pub IsLawful-graft : (cs : List (Key × Tree)) → is_sorted key_cmp cs ≡ true → AllByRecursion IsLawfulChild cs → IsLawful (graft cs)
IsLawful-graft cs s h = record { tree = IsTree-graft cs s (trees_of cs h); paths = paths; primitives = primitives }
  where
    child : (k : Key) (q : Path) → IsSome (get (child_of k cs) q) → IsLawfulChild (k, child_of k cs)
    child k q g = child_has (λ x t. IsLawfulChild (x, t)) cs h k q g

    paths : (p : Path) → IsSome (get (graft cs) p) → is_path p ≡ true
    paths [] a = absurd (none_is_not_some _ (get-graft-root cs) a)
    paths (k ∷ p) a =
        let here : IsSome (get (child_of k cs) p) = ap is_some (sym (get-graft cs k p s)) ∙ a in
        let c = child k p here in
        let deep = length-le-depth (child_of k cs) p here in
        let room = c.depth in
        is_path_from (k ∷ p) (both_so _ _ c.key (path_keys p (c.tree.paths p here))) (omega arith)

    primitives : (p : Path) (v : Primitive) → get (graft cs) p ≡ Some v → is_primitive v ≡ true
    primitives [] v e = absurd (none_is_not_some _ (get-graft-root cs) (ap is_some e))
    primitives (k ∷ p) v e =
        let here : get (child_of k cs) p ≡ Some v = sym (get-graft cs k p s) ∙ e in
        (child k p (ap is_some here)).tree.primitives p v here
