-- The locations that exist in a tree: the root, and those that exist in its children, each below its key.
use Rattle.std.proofs.Common.{◌≡◌, ◌≢◌, Bool, true, false, cond, not, ◌||◌, List, [], ◌∷◌, ◌++◌, map, T, Some, None, Option, option_map, unwrap_or, is_some, sym, ap, ◌∙◌, refl}
use Rattle.std.specs.FinMap as map_of
use Rattle.std.specs.FinMap.{find, is_sorted}
use Rattle.std.specs.FinMap.Entries.{below_all}
use Rattle.std.specs.FinSet as set_of
use Rattle.std.specs.List.{flat_map, list_any}
use Rattle.std.specs.Cmp.{first_so, second_so, tied_itself}
use Rattle.std.specs.Ordering.{is_lt, ordering_then}
use Rattle.std.specs.declared.cmp.Ordering.{Ordering}
use Rattle.std.specs.declared.cmp.Ordering.TheVariants.{Less, Equal, Greater}
use Rattle.std.proofs.lemmas.Bool.{false≢true}
use Rattle.tree_model.specs.Key.{Key, key_cmp}
use Rattle.tree_model.specs.Path.{Path, path_cmp, prefixes}
use Rattle.tree_model.specs.Primitive.{Primitive}
use Rattle.tree_model.specs.PathMap.{PathMap, get, is_null, sub, exists, under}
use Rattle.tree_model.specs.Tree as trees
use Rattle.tree_model.specs.Tree.{Tree, null, non_null, children}
use Rattle.tree_model.proofs.Choices.{both_so}
use Rattle.tree_model.proofs.Orders.{keys_total, paths_total, exact_paths, path_eq}
use Rattle.tree_model.proofs.Lookups.{sub-null, sub-sub, get-empty}
use Rattle.tree_model.proofs.Existence.{by_null, is_null-null, exists-sub, contains-existing, exists_above, some_path}
use Rattle.request_explainer.specs.Asked.{existing}
use Rattle.tree_model.proofs.Grafts.{spread, find-spread, entries-sorted, get-children}

-- what nothing stands at
abbrev pub Places : Type 0
Places = PathMap (Unit {0})

-- ---- lists of pairs whose paths ascend

below_both : (p : Path) (es fs : List (Path × Unit {0})) → below_all path_cmp p es ≡ true → below_all path_cmp p fs ≡ true → below_all path_cmp p (es ++ fs) ≡ true
below_both p [] fs h g = g
below_both p (e ∷ es) fs h g = both_so _ _ (first_so _ _ h) (below_both p es fs (second_so _ _ h) g)

-- those of the first list are below all of the second one
abbrev AreBelow : List (Path × Unit {0}) → List (Path × Unit {0}) → Type 0
AreBelow [] fs = Unit {0}
AreBelow (e ∷ es) fs = (below_all path_cmp e.0 fs ≡ true) × AreBelow es fs

sorted_both : (es fs : List (Path × Unit {0})) → is_sorted path_cmp es ≡ true → is_sorted path_cmp fs ≡ true → AreBelow es fs → is_sorted path_cmp (es ++ fs) ≡ true
sorted_both [] fs h g below = g
sorted_both (e ∷ es) fs h g below = both_so _ _ (below_both e.0 es fs (first_so _ _ h) below.0) (sorted_both es fs (second_so _ _ h) g below.1)

-- ---- below keys

same_head : (k : Key) (p q : Path) → path_cmp (k ∷ p) (k ∷ q) ≡ path_cmp p q
same_head k p q = ap (λ o. ordering_then o (path_cmp p q)) (tied_itself keys_total k)

below_under : (k : Key) (p : Path) (es : List (Path × Unit {0})) → below_all path_cmp p es ≡ true → below_all path_cmp (k ∷ p) (under k es) ≡ true
below_under k p [] h = refl
below_under k p (e ∷ es) h = both_so _ _ (ap is_lt (same_head k p e.0) ∙ first_so _ _ h) (below_under k p es (second_so _ _ h))

sorted_under : (k : Key) (es : List (Path × Unit {0})) → is_sorted path_cmp es ≡ true → is_sorted path_cmp (under k es) ≡ true
sorted_under k [] h = refl
sorted_under k (e ∷ es) h = both_so _ _ (below_under k e.0 es (first_so _ _ h)) (sorted_under k es (second_so _ _ h))

less_head : (o r : Ordering) → is_lt o ≡ true → is_lt (ordering_then o r) ≡ true
less_head Less r h = refl
less_head Equal r h = absurd (false≢true h)
less_head Greater r h = absurd (false≢true h)

below_later : (k l : Key) (p : Path) (es : List (Path × Unit {0})) → is_lt (key_cmp k l) ≡ true → below_all path_cmp (k ∷ p) (under l es) ≡ true
below_later k l p [] h = refl
below_later k l p (e ∷ es) h = both_so _ _ (less_head (key_cmp k l) (path_cmp p e.0) h) (below_later k l p es h)

below_spread : (k : Key) (p : Path) (ds : List (Key × Places)) → below_all key_cmp k ds ≡ true → below_all path_cmp (k ∷ p) (spread ds) ≡ true
below_spread k p [] h = refl
below_spread k p (d ∷ ds) h = below_both (k ∷ p) (under d.0 (map_of.entries d.1)) (spread ds) (below_later k d.0 p (map_of.entries d.1) (first_so _ _ h)) (below_spread k p ds (second_so _ _ h))

are_below : (k : Key) (es : List (Path × Unit {0})) (ds : List (Key × Places)) → below_all key_cmp k ds ≡ true → AreBelow (under k es) (spread ds)
are_below k [] ds h = tt
are_below k (e ∷ es) ds h = (below_spread k e.0 ds h, are_below k es ds h)

from_T : (b : Bool) → T b → b ≡ true
from_T true h = refl
from_T false h = absurd h

sorted_spread : (ds : List (Key × Places)) → is_sorted key_cmp ds ≡ true → is_sorted path_cmp (spread ds) ≡ true
sorted_spread [] h = refl
sorted_spread (d ∷ ds) h =
    sorted_both (under d.0 (map_of.entries d.1)) (spread ds)
    (sorted_under d.0 (map_of.entries d.1) (from_T _ (map_of.entries_sorted d.1)))
    (sorted_spread ds (second_so _ _ h))
    (are_below d.0 (map_of.entries d.1) ds (first_so _ _ h))

root_below : (l : Key) (es : List (Path × Unit {0})) → below_all path_cmp [] (under l es) ≡ true
root_below l [] = refl
root_below l (e ∷ es) = root_below l es

root_below_all : (ds : List (Key × Places)) → below_all path_cmp [] (spread ds) ≡ true
root_below_all [] = refl
root_below_all (d ∷ ds) = below_both [] (under d.0 (map_of.entries d.1)) (spread ds) (root_below d.0 (map_of.entries d.1)) (root_below_all ds)

-- ---- the children of a tree, each by the locations that exist in it

abbrev in_children : List (Key × Tree) → List (Key × Places)
in_children cs = map (λ c. (c.0, existing c.1)) cs

below_in_children : (k : Key) (cs : List (Key × Tree)) → below_all key_cmp k cs ≡ true → below_all key_cmp k (in_children cs) ≡ true
below_in_children k [] h = refl
below_in_children k (c ∷ cs) h = both_so _ _ (first_so _ _ h) (below_in_children k cs (second_so _ _ h))

sorted_in_children : (cs : List (Key × Tree)) → is_sorted key_cmp cs ≡ true → is_sorted key_cmp (in_children cs) ≡ true
sorted_in_children [] h = refl
sorted_in_children (c ∷ cs) h = both_so _ _ (below_in_children c.0 cs (first_so _ _ h)) (sorted_in_children cs (second_so _ _ h))

found_in_children : (k : Key) (cs : List (Key × Tree)) → find key_cmp k (in_children cs) ≡ option_map existing (find key_cmp k cs)
found_in_children k [] = refl
found_in_children k (c ∷ cs) = one _ (found_in_children k cs)
  where
    one : (b : Bool) → find key_cmp k (in_children cs) ≡ option_map existing (find key_cmp k cs) → cond b (Some (existing c.1)) (find key_cmp k (in_children cs)) ≡ option_map existing (cond b (Some c.1) (find key_cmp k cs))
    one true h = refl
    one false h = h

exists-null : (p : Path) → exists null p ≡ false
exists-null p = exists-sub null p ∙ ap not (ap is_null (sub-null p) ∙ is_null-null)

abbrev once : Path → Path × Unit {0}
once p = (p, tt)

found_path : (q : Path) (ps : List Path) → is_some (find path_cmp q (map once ps)) ≡ list_any (path_eq q) ps
found_path q [] = refl
found_path q (p ∷ ps) = one (path_eq q p) (found_path q ps)
  where
    one : (b : Bool) → is_some (find path_cmp q (map once ps)) ≡ list_any (path_eq q) ps → is_some (cond b (Some tt) (find path_cmp q (map once ps))) ≡ (b || list_any (path_eq q) ps)
    one true h = refl
    one false h = h

listed_exists : (t : Tree) (q : Path) → list_any (path_eq q) (flat_map prefixes (map_of.keys t)) ≡ exists t q
unfolding trees.existing
listed_exists t q = sym (set_of.contains-from_list paths_total (flat_map prefixes (map_of.keys t)) q) ∙ contains-existing t q

is_listed : (t : Tree) (q : Path) → is_some (get (existing t) q) ≡ exists t q
unfolding existing
is_listed t q = ap is_some (map_of.get-from_entries paths_total (map once (flat_map prefixes (map_of.keys t))) q) ∙ found_path q (flat_map prefixes (map_of.keys t)) ∙ listed_exists t q

-- of a child, if there is one
in_child : (u : Tree) (p : Path) → is_some (get {X = Unit {0}} (unwrap_or (option_map existing (non_null u)) map_of.empty) p) ≡ exists u p
unfolding non_null
in_child u p =
    by_null (λ b. is_some (get {X = Unit {0}} (unwrap_or (option_map existing (cond b None (Some u))) map_of.empty) p) ≡ exists u p) u
    (λ e. ap is_some (get-empty p) ∙ sym (exists-null p) ∙ ap (λ (t : Tree). exists t p) (sym e))
    (λ _. is_listed u p)

-- ---- the locations of a tree

abbrev pairs : Tree → List (Path × Unit {0})
pairs t = ([], tt) ∷ spread (in_children (map_of.entries (children t)))

sorted_children : (t : Tree) → is_sorted key_cmp (map_of.entries (children t)) ≡ true
sorted_children t = from_T _ (map_of.entries_sorted (children t))

sorted_pairs : (t : Tree) → is_sorted path_cmp (pairs t) ≡ true
sorted_pairs t = both_so _ _ (root_below_all (in_children (map_of.entries (children t)))) (sorted_spread (in_children (map_of.entries (children t))) (sorted_in_children (map_of.entries (children t)) (sorted_children t)))

root_exists : (t : Tree) → t ≢ null → exists t [] ≡ true
root_exists t n = let found = some_path t n in exists_above t [] found.0 found.1

found_pair : (t : Tree) → t ≢ null → (q : Path) → is_some (find path_cmp q (pairs t)) ≡ exists t q
found_pair t some [] = sym (root_exists t some)
found_pair t some (k ∷ p) =
    let cs = map_of.entries (children t) in
    ap is_some (find-spread k p (in_children cs) (sorted_in_children cs (sorted_children t)))
    ∙ ap (λ (o : Option Places). is_some (get {X = Unit {0}} (unwrap_or o map_of.empty) p)) (found_in_children k cs ∙ ap (option_map existing) (sym (map_of.get-entries (children t) k) ∙ get-children t k))
    ∙ in_child (sub t (k ∷ [])) p
    ∙ exists-sub (sub t (k ∷ [])) p
    ∙ ap (λ (u : Tree). not (is_null u)) (sub-sub t (k ∷ []) p)
    ∙ sym (exists-sub t (k ∷ p))

abbrev marked : Bool → Option (Unit {0})
marked b = cond b (Some tt) None

marks : (x : Option (Unit {0})) → x ≡ marked (is_some x)
marks None = refl
marks (Some u) = refl

existing_is : (t : Tree) → t ≢ null → existing t ≡ map_of.from_entries (pairs t)
existing_is t some =
    map_of.same_map paths_total exact_paths (existing t) (map_of.from_entries (pairs t))
    (λ q. marks (get (existing t) q) ∙ ap marked (is_listed t q ∙ sym (ap is_some (map_of.get-from_entries paths_total (pairs t) q) ∙ found_pair t some q)) ∙ sym (marks (get (map_of.from_entries (pairs t)) q)))

-- the locations of each child, below its key
abbrev pub below_keys : List (Key × Tree) → List Path
below_keys [] = []
below_keys (c ∷ cs) = map (λ p. c.0 ∷ p) (map_of.keys (existing c.1)) ++ below_keys cs

abbrev firsts : List (Path × Unit {0}) → List Path
firsts es = map (λ e. e.0) es

firsts-append : (es fs : List (Path × Unit {0})) → firsts (es ++ fs) ≡ firsts es ++ firsts fs
firsts-append [] fs = refl
firsts-append (e ∷ es) fs = ap (λ ps. e.0 ∷ ps) (firsts-append es fs)

firsts-under : (k : Key) (es : List (Path × Unit {0})) → firsts (under k es) ≡ map (λ p. k ∷ p) (firsts es)
firsts-under k [] = refl
firsts-under k (e ∷ es) = ap (λ ps. (k ∷ e.0) ∷ ps) (firsts-under k es)

firsts-spread : (cs : List (Key × Tree)) → firsts (spread (in_children cs)) ≡ below_keys cs
firsts-spread [] = refl
firsts-spread (c ∷ cs) = firsts-append (under c.0 (map_of.entries (existing c.1))) (spread (in_children cs)) ∙ (λ i. firsts-under c.0 (map_of.entries (existing c.1)) i ++ firsts-spread cs i)

pub keys-existing : (t : Tree) → t ≢ null → map_of.keys (existing t) ≡ [] ∷ below_keys (map_of.entries (children t))
keys-existing t some =
    ap map_of.keys (existing_is t some)
    ∙ ap firsts (entries-sorted paths_total exact_paths (pairs t) (sorted_pairs t))
    ∙ ap (λ ps. [] ∷ ps) (firsts-spread (map_of.entries (children t)))

-- nothing exists in the null tree
pub keys-null : map_of.keys (existing null) ≡ []
unfolding existing
keys-null =
    ap (λ (es : List (Path × Primitive)). map_of.keys (map_of.from_entries {R = path_cmp} (map once (flat_map prefixes (map (λ e. e.0) es))))) (entries-sorted paths_total exact_paths [] refl)
    ∙ ap firsts (entries-sorted paths_total exact_paths [] refl)
