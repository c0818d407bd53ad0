-- What a rule sees of a query.
use Rattle.std.specs.Prelude.{ℕ, List, Bool, false, Option, None, option_map}
use Rattle.tree_model.specs.Primitive.{Primitive}
use Rattle.json_tree.specs.Leaf.{primitive_of}
use Rattle.evaluator.specs.declared.asked.Asked as code

-- the eight fields: which order is asked for, the bounds and the limits, as they are given. (Guide "Rules conditions", query-based rules.)
pub record Asked : Type 0 where
  pub order_by_key : Bool
  pub order_by_value : Bool
  pub order_by_child : Option (List ℕ)
  pub start_at : Option Primitive
  pub end_at : Option Primitive
  pub equal_to : Option Primitive
  pub limit_to_first : Option ℕ
  pub limit_to_last : Option ℕ

-- those of no query: false, false, and nulls. (The same section; that the fields are there without a query is this project's profile.)
abbrev pub no_query : Asked
no_query = record {
  order_by_key = false;
  order_by_value = false;
  order_by_child = None;
  start_at = None;
  end_at = None;
  equal_to = None;
  limit_to_first = None;
  limit_to_last = None;
}

-- the fields of a query of the code
abbrev pub asked_of : code.Asked → Asked
asked_of a = record {
  order_by_key = a.order_by_key;
  order_by_value = a.order_by_value;
  order_by_child = option_map (λ text. text.now) a.order_by_child;
  start_at = option_map (λ leaf. primitive_of leaf.now) a.start_at;
  end_at = option_map (λ leaf. primitive_of leaf.now) a.end_at;
  equal_to = option_map (λ leaf. primitive_of leaf.now) a.equal_to;
  limit_to_first = a.limit_to_first;
  limit_to_last = a.limit_to_last;
}
