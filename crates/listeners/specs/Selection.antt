-- Which part of a tree a query selects.
use Rattle.std.specs.Prelude.{ℕ, ◌&&◌, List, [], ◌∷◌, length, filter, Bool, true, not, nat_lt, if◌then◌else◌, Option, Some, None}
use Rattle.std.specs.Option.{option_map_or}
use Rattle.std.specs.FinMap as map_of
use Rattle.std.specs.declared.cmp.Ordering.{Ordering}
use Rattle.std.specs.Ordering.{is_lt, is_gt, is_eq, ordering_then}
use Rattle.tree_model.specs.Key.{Key}
use Rattle.tree_model.specs.PathMap.{get, is_null, sub}
use Rattle.tree_model.specs.Primitive.{Primitive, truth, whole, words}
use Rattle.tree_model.specs.Tree.{Tree, children}
use Rattle.tree_model.specs.Children.{graft}
use Rattle.listeners.specs.Order.{SortPlace, nothing, value, location, place_cmp, list_cmp}
use Rattle.listeners.specs.Query.{Order, by_key, by_value, by_child, Query}

-- a child: its key and its subtree
abbrev pub Child : Type 0
Child = Key × Tree

-- ---- the order of children. (Guide "Work with Lists of Data", how query data is ordered.)

-- what stands at the root of a tree, as an order value
abbrev pub place_of : Tree → SortPlace
place_of t = option_map_or (λ v. value v) (get t []) (if is_null t then nothing else location)

-- by their order values in this order, children of equal ones by their keys, of which numbers come first (this project's profile); without an order, by their keys
abbrev pub child_cmp : Option Order → Child → Child → Ordering
child_cmp None c d = list_cmp c.0 d.0
child_cmp (Some by_key) c d = list_cmp c.0 d.0
child_cmp (Some by_value) c d = ordering_then (place_cmp (place_of c.1) (place_of d.1)) (list_cmp c.0 d.0)
child_cmp (Some (by_child path)) c d = ordering_then (place_cmp (place_of (sub c.1 path)) (place_of (sub d.1 path))) (list_cmp c.0 d.0)

-- ---- bounds. (The same guide, filtering data.)

-- where a key stands beside a bound; the bound is a text, as a query's bounds by key are
abbrev pub key_beside : Key → Primitive → Ordering
key_beside key (truth b) = list_cmp key []
key_beside key (whole z) = list_cmp key []
key_beside key (words s) = list_cmp key s

-- where the order value of a child stands beside a bound; without an order no query has bounds
abbrev pub beside : Option Order → Child → Primitive → Ordering
beside None c bound = key_beside c.0 bound
beside (Some by_key) c bound = key_beside c.0 bound
beside (Some by_value) c bound = place_cmp (place_of c.1) (value bound)
beside (Some (by_child path)) c bound = place_cmp (place_of (sub c.1 path)) (value bound)

-- at or after the first bound, at or before the last one, equal to the one that it has to be equal to
abbrev pub is_within : Query → Child → Bool
is_within query c =
    option_map_or (λ bound. not (is_lt (beside query.order c bound))) query.start_at true
    && option_map_or (λ bound. not (is_gt (beside query.order c bound))) query.end_at true
    && option_map_or (λ bound. is_eq (beside query.order c bound)) query.equal_to true

-- ---- limits. (The same section.)

-- the children within the bounds
abbrev pub within : Query → List Child → List Child
within query cs = filter (is_within query) cs

-- how many of these come before the child
abbrev pub before : Option Order → Child → List Child → ℕ
before order c cs = length (filter (λ d. is_lt (child_cmp order d c)) cs)

-- how many of these come after the child
abbrev pub after : Option Order → Child → List Child → ℕ
after order c cs = length (filter (λ d. is_gt (child_cmp order d c)) cs)

-- within the bounds, and of those that are, fewer than the limit come before it, or after it
abbrev pub is_kept : Query → List Child → Child → Bool
is_kept query cs c =
    is_within query c
    && option_map_or (nat_lt (before query.order c (within query cs))) query.limit_to_first true
    && option_map_or (nat_lt (after query.order c (within query cs))) query.limit_to_last true

-- ---- the selection

-- the tree of the children that are kept. Of one primitive, or of nothing, none are
abbrev pub selected : Query → Tree → Tree
selected query t = graft (filter (is_kept query (map_of.entries (children t))) (map_of.entries (children t)))

-- the child of this key is one of them
abbrev pub is_selected : Query → Tree → Key → Bool
is_selected query t k = not (is_null (sub t (k ∷ []))) && is_kept query (map_of.entries (children t)) (k, sub t (k ∷ []))

-- what is selected: without a query the whole
unfoldable pub selection : Tree → Option Query → Tree
selection t None = t
selection t (Some query) = selected query t
