-- What stands at a path: of a subtree, and of equal trees.
use Rattle.std.proofs.Common.{◌≡◌, false, cond, List, [], ◌∷◌, ◌++◌, Some, None, option_map, sym, ap, ◌∙◌, refl, append_assoc}
use Rattle.std.specs.List.{filter_map, cons_option}
use Rattle.std.specs.Option.{option_map_or}
use Rattle.std.specs.FinMap as map_of
use Rattle.std.specs.FinMap.{find}
use Rattle.tree_model.specs.Key.{Key}
use Rattle.tree_model.specs.Path.{Path, path_cmp, strip_prefix}
use Rattle.tree_model.specs.PathMap.{PathMap, get, below, sub}
use Rattle.tree_model.specs.Tree.{null}
use Rattle.tree_model.proofs.Orders.{paths_total, exact_paths, path_eq}
use Rattle.tree_model.proofs.Paths.{path_eq-append}

-- trees that have the same at each path are one
pub same_tree : {X : Type 0} (t u : PathMap X) → ((q : Path) → get t q ≡ get u q) → t ≡ u
same_tree = map_of.same_map paths_total exact_paths

pub get-empty : {X : Type 0} (q : Path) → get {X = X} map_of.empty q ≡ None
get-empty q = map_of.get-empty path_cmp q

pub get-null : (q : Path) → get null q ≡ None
get-null q = get-empty q

find-below : {X : Type 0} (p q : Path) (es : List (Path × X)) → find path_cmp q (filter_map (below p) es) ≡ find path_cmp (p ++ q) es
find-below p q [] = refl
find-below p q (e ∷ es) =
    let rest = find path_cmp q (filter_map (below p) es) in
    elim (strip_prefix p e.0) as (λ o. find path_cmp q (cons_option (option_map (λ r. (r, e.1)) o) (filter_map (below p) es)) ≡ cond (option_map_or (path_eq q) o false) (Some e.1) rest) [ None ↦ refl | (Some r) ↦ refl ]
    ∙ (λ i. cond (sym (path_eq-append p q e.0) i) (Some e.1) (find-below p q es i))

-- below p, a tree has at q what it has at p ++ q
pub get-sub : {X : Type 0} (t : PathMap X) (p q : Path) → get (sub t p) q ≡ get t (p ++ q)
unfolding sub
get-sub t p q = map_of.get-from_entries paths_total (filter_map (below p) (map_of.entries t)) q ∙ find-below p q (map_of.entries t) ∙ sym (map_of.get-entries t (p ++ q))

pub sub-sub : {X : Type 0} (t : PathMap X) (p q : Path) → sub (sub t p) q ≡ sub t (p ++ q)
sub-sub t p q = same_tree _ _ (λ r.
    get-sub (sub t p) q r ∙ get-sub t p (q ++ r) ∙ ap (get t) (sym (append_assoc p q r)) ∙ sym (get-sub t (p ++ q) r))

pub sub-root : {X : Type 0} (t : PathMap X) → sub t [] ≡ t
sub-root t = same_tree _ _ (λ q. get-sub t [] q)

pub sub-null : (p : Path) → sub null p ≡ null
sub-null p = same_tree _ _ (λ q. get-sub null p q ∙ get-null (p ++ q) ∙ sym (get-null q))

-- trees that have the same at the root and below each key are one
pub same_below : {X : Type 0} (t u : PathMap X) → get t [] ≡ get u [] → ((k : Key) → sub t (k ∷ []) ≡ sub u (k ∷ [])) → t ≡ u
same_below t u root each = same_tree t u at
  where
    at : (q : Path) → get t q ≡ get u q
    at [] = root
    at (k ∷ q) = sym (get-sub t (k ∷ []) q) ∙ ap (λ v. get v q) (each k) ∙ get-sub u (k ∷ []) q
