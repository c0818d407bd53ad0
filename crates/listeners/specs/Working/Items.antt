-- Children in order, as the code holds them.
use Rattle.std.specs.Prelude.{◌≡◌, ℕ, ◌<◌, ◌≤◌, List, length, Bool, true, false, not, slice_index_or, ℤ, Option, option_map}
use Rattle.std.specs.declared.cmp.Ordering.{Ordering}
use Rattle.std.specs.Ordering.{is_lt, is_gt}
use Rattle.std.specs.List.Sorted.{IsPermutation}
use Rattle.json_tree.specs.Leaf.{primitive_of}
use Rattle.tree_model.specs.Key.{Key}
use Rattle.listeners.specs.Order as orders
use Rattle.listeners.specs.Order.{nothing, value, location}
use Rattle.listeners.specs.Working.Ranks as ranks
use Rattle.listeners.specs.Working.Ranks.{Rank, rank_cmp, at_key, at_value}
use Rattle.listeners.specs.declared.list_key.ListKey.{ListKey}
use Rattle.listeners.specs.declared.place.SortPlace.{SortPlace}
use Rattle.listeners.specs.declared.place.SortPlace.TheVariants.{Nothing, Value, Location}
use Rattle.listeners.specs.declared.item.Item.{Item}
use Rattle.listeners.specs.declared.bounds.Mark.{Mark}
use Rattle.listeners.specs.declared.bounds.Mark.TheVariants.{Key as AtKey, Value as AtValue}
use Rattle.listeners.specs.declared.bounds.Bounds.{Bounds}
use Rattle.listeners.specs.declared.edge.Edge.{Edge}
use Rattle.listeners.specs.declared.edge.Edge.TheVariants.{Nowhere, UpTo, FromOn}

-- what a key of the code stands for, with the number that it is
abbrev pub key_seen : ListKey → Option ℤ × Key
key_seen key = (key.number, key.text.now)

-- what a sort place of the code stands for
abbrev pub place_seen : SortPlace → orders.SortPlace
place_seen Nothing = nothing
place_seen (Value leaf) = value (primitive_of leaf.now)
place_seen Location = location

-- the rank of an item
abbrev pub rank_seen : Item → Rank
rank_seen item = (place_seen item.place, key_seen item.key)

-- the index and the rank of an item
abbrev pub item_seen : Item → ℕ × Rank
item_seen item = (item.index, rank_seen item)

-- the order of items, which is that of their ranks
abbrev pub item_cmp : Item → Item → Ordering
item_cmp a b = rank_cmp (rank_seen a) (rank_seen b)

-- what a bound of the code stands for
abbrev pub mark_seen : Mark → ranks.Mark
mark_seen (AtKey key) = at_key (key_seen key)
mark_seen (AtValue leaf) = at_value (primitive_of leaf.now)

-- what all bounds of a query, as the code has them, stand for
abbrev pub marks_seen : Bounds → ranks.Marks
marks_seen bounds = record {
  start_at = option_map mark_seen bounds.start_at;
  end_at = option_map mark_seen bounds.end_at;
  equal_to = option_map mark_seen bounds.equal_to;
}

-- the item stands at an index of the list, once nothing before the index is behind it, and nothing behind the index before it
pub record StandsAt (items : List Item) (i : ℕ) (item : Item) : Type 0 where
  pub ordered : List Item
  pub permutation : IsPermutation items ordered
  pub within : i < length ordered
  pub at : item ≡ slice_index_or ordered i item
  pub before : (k : ℕ) (d : Item) → k ≤ i → is_lt (item_cmp item (slice_index_or ordered k d)) ≡ false
  pub behind : (k : ℕ) (d : Item) → i ≤ k → k < length ordered → is_lt (item_cmp (slice_index_or ordered k d) item) ≡ false

-- what lies on this side of the edge
abbrev pub lies_inside : Edge → Rank → Bool
lies_inside Nowhere r = true
lies_inside (UpTo item) r = not (is_gt (rank_cmp r (rank_seen item)))
lies_inside (FromOn item) r = not (is_lt (rank_cmp r (rank_seen item)))
