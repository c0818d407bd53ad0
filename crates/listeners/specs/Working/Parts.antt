-- The parts of a query of the code.
use Rattle.std.specs.Prelude.{ℕ, Option, Some, None, option_map}
use Rattle.json_tree.specs.Leaf.{primitive_of}
use Rattle.json_tree.specs.declared.leaf.Leaf.{Leaf}
use Rattle.listeners.specs.Query.{Order, by_key, by_value, by_child, Query}
use Rattle.listeners.specs.declared.order.Order as code
use Rattle.listeners.specs.declared.order.Order.TheVariants.{Key, Value, Child}
use Rattle.listeners.specs.declared.order.Limit.{Limit}
use Rattle.listeners.specs.declared.order.Limit.TheVariants.{First, Last}

-- what an order of the code stands for
abbrev pub order_seen : code.Order → Order
order_seen Key = by_key
order_seen Value = by_value
order_seen (Child child) = by_child child.path

-- the limit from the first child on, if it is one
abbrev pub first_of : Option Limit → Option ℕ
first_of None = None
first_of (Some (First n)) = Some n
first_of (Some (Last n)) = None

-- and from the last one on
abbrev pub last_of : Option Limit → Option ℕ
last_of None = None
last_of (Some (First n)) = None
last_of (Some (Last n)) = Some n

-- both
abbrev pub limits_of : Option Limit → Option ℕ × Option ℕ
limits_of limit = (first_of limit, last_of limit)

-- the query of these parts
abbrev pub query_seen : Option code.Order → Option Leaf → Option Leaf → Option Leaf → Option Limit → Query
query_seen order start_at end_at equal_to limit = record {
  order = option_map order_seen order;
  start_at = option_map primitive_of start_at;
  end_at = option_map primitive_of end_at;
  equal_to = option_map primitive_of equal_to;
  limit_to_first = first_of limit;
  limit_to_last = last_of limit;
}
