-- What a value says of a query, before memory is taken for it.
use Rattle.std.specs.Prelude.{option_map}
use Rattle.tree_model.specs.Primitive.{Primitive, truth, whole, words}
use Rattle.path_capture.specs.Path.{segments}
use Rattle.listeners.specs.Query.{Order, by_key, by_value, by_child, Query}
use Rattle.listeners.specs.declared.said.SaidOrder.{SaidOrder}
use Rattle.listeners.specs.declared.said.SaidOrder.TheVariants.{Key, Value, Child}
use Rattle.listeners.specs.declared.said.SaidBound.{SaidBound}
use Rattle.listeners.specs.declared.said.SaidBound.TheVariants.{Truth, Whole, Words}
use Rattle.listeners.specs.declared.said.Said.{Said}

-- the order that a value says
abbrev pub order_said : SaidOrder → Order
order_said Key = by_key
order_said Value = by_value
order_said (Child text) = by_child (segments text.now)

-- the bound that a value says
abbrev pub bound_said : SaidBound → Primitive
bound_said (Truth b) = truth b
bound_said (Whole z) = whole z
bound_said (Words s) = words s.now

-- the query that a value says
abbrev pub query_said : Said → Query
query_said said = record {
  order = option_map order_said said.order;
  start_at = option_map bound_said said.start_at;
  end_at = option_map bound_said said.end_at;
  equal_to = option_map bound_said said.equal_to;
  limit_to_first = said.limit_to_first;
  limit_to_last = said.limit_to_last;
}
