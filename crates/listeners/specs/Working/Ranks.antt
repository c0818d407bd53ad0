-- Where a child stands in the order of a query: its place, and its key with the number of this key.
use Rattle.std.specs.Prelude.{ℕ, suc, ◌&&◌, List, [], ◌∷◌, map, filter, length, Bool, true, not, nat_lt, ℤ, Option, Some, None, option_map}
use Rattle.std.specs.Option.{option_map_or}
use Rattle.std.specs.FinMap as map_of
use Rattle.std.specs.List.{list_any}
use Rattle.std.specs.Str.{bytes_eq}
use Rattle.std.specs.declared.cmp.Ordering.{Ordering}
use Rattle.std.specs.Ordering.{is_lt, is_gt, is_eq, ordering_then}
use Rattle.tree_model.specs.Key.{Key, key_cmp}
use Rattle.tree_model.specs.PathMap.{sub}
use Rattle.tree_model.specs.Primitive.{Primitive, truth, whole, words}
use Rattle.tree_model.specs.Tree.{Tree, children}
use Rattle.listeners.specs.Order.{number_of, numbered_cmp, length_cmp, SortPlace, nothing, value, place_cmp}
use Rattle.listeners.specs.Query.{Order, by_key, by_value, by_child, Query}
use Rattle.listeners.specs.Selection.{Child, place_of, is_within}

-- the place of the child, and its key with the number that it is
abbrev pub Rank : Type 0
Rank = SortPlace × (Option ℤ × Key)

-- the order of keys whose numbers are known
abbrev pub keyed_cmp : Option ℤ × Key → Option ℤ × Key → Ordering
keyed_cmp k l = ordering_then (numbered_cmp k.0 l.0) (ordering_then (length_cmp k.0 k.1 l.1) (key_cmp k.1 l.1))

-- a key with the number that it is, if it is one
abbrev pub keyed : Key → Option ℤ × Key
keyed k = (number_of k, k)

-- the order of ranks: by their places, and at one place by their keys
abbrev pub rank_cmp : Rank → Rank → Ordering
rank_cmp r s = ordering_then (place_cmp r.0 s.0) (keyed_cmp r.1 s.1)

-- the place by which a child is ordered; by keys all are in one place
abbrev pub place_by : Option Order → Child → SortPlace
place_by None c = nothing
place_by (Some by_key) c = nothing
place_by (Some by_value) c = place_of c.1
place_by (Some (by_child path)) c = place_of (sub c.1 path)

-- the rank of a child in this order
abbrev pub rank_of : Option Order → Child → Rank
rank_of order c = (place_by order c, keyed c.0)

-- ---- bounds

-- a bound: a key, or a value
pub data Mark : Type 0 where
  at_key : Option ℤ × Key → Mark
  at_value : Primitive → Mark

-- the key that a primitive is: a text itself, and the empty key for any other
abbrev pub key_in : Primitive → Key
key_in (truth b) = []
key_in (whole z) = []
key_in (words s) = s

-- the bound of this value: a key where children are ordered by keys, else the value
abbrev pub mark_of : Option Order → Primitive → Mark
mark_of None v = at_key (keyed (key_in v))
mark_of (Some by_key) v = at_key (keyed (key_in v))
mark_of (Some by_value) v = at_value v
mark_of (Some (by_child path)) v = at_value v

-- how a rank compares with a bound, by its key or by its place
abbrev pub mark_cmp : Rank → Mark → Ordering
mark_cmp r (at_key k) = keyed_cmp r.1 k
mark_cmp r (at_value v) = place_cmp r.0 (value v)

-- the bounds of a query, as far as it has them
pub record Marks : Type 0 where
  pub start_at : Option Mark
  pub end_at : Option Mark
  pub equal_to : Option Mark

-- the bounds of this query, in its order
abbrev pub marks_of : Query → Marks
marks_of query = record {
  start_at = option_map (mark_of query.order) query.start_at;
  end_at = option_map (mark_of query.order) query.end_at;
  equal_to = option_map (mark_of query.order) query.equal_to;
}

-- the rank is within the bounds
abbrev pub is_between : Marks → Rank → Bool
is_between marks r =
    option_map_or (λ m. not (is_lt (mark_cmp r m))) marks.start_at true
    && option_map_or (λ m. not (is_gt (mark_cmp r m))) marks.end_at true
    && option_map_or (λ m. is_eq (mark_cmp r m)) marks.equal_to true

-- ---- the children within the bounds

-- each child with its index, from n on
abbrev pub numbered : ℕ → List Child → List (ℕ × Child)
numbered n [] = []
numbered n (c ∷ cs) = (n, c) ∷ numbered (suc n) cs

-- the rank of a child in this order, with its index
abbrev pub ranked : Option Order → ℕ × Child → ℕ × Rank
ranked order e = (e.0, rank_of order e.1)

-- the ranks of those within the bounds, each with its index
abbrev pub ranks_within : Query → List Child → List (ℕ × Rank)
ranks_within query cs = map (ranked query.order) (filter (λ e. is_within query e.1) (numbered 0 cs))

-- the key is one of these
abbrev pub is_among : Key → List Key → Bool
is_among k ks = list_any (bytes_eq k) ks

-- the same of those alone whose keys are none of these
abbrev pub other_ranks : Query → Tree → List Key → List (ℕ × Rank)
other_ranks query t ks = map (ranked query.order) (filter (λ e. not (is_among e.1.0 ks) && is_within query e.1) (numbered 0 (map_of.entries (children t))))

-- ---- limits

-- how many stand before a rank
abbrev pub count_before : Rank → List (ℕ × Rank) → ℕ
count_before r rs = length (filter (λ s. is_lt (rank_cmp s.1 r)) rs)

-- how many stand behind a rank
abbrev pub count_behind : Rank → List (ℕ × Rank) → ℕ
count_behind r rs = length (filter (λ s. is_gt (rank_cmp s.1 r)) rs)

-- a rank that the limits keep, among these
abbrev pub is_kept_of : Option ℕ → Option ℕ → List (ℕ × Rank) → Rank → Bool
is_kept_of first last rs r =
    option_map_or (nat_lt (count_before r rs)) first true
    && option_map_or (nat_lt (count_behind r rs)) last true
