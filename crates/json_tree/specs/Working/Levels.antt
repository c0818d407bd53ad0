-- How many levels a JSON value has: what stands above its deepest primitive, and that primitive.
use Rattle.std.specs.Prelude.{ℕ, zero, suc, max}
use Rattle.std.specs.Option.{option_map_or}
use Rattle.serde_json.specs.Data.{Data, null, boolean, number, string, array, object, Items, no_items, item, Members, no_members, member}
use Rattle.json_tree.specs.Json.{whole_of}

-- below a key: a level more, and none where there is nothing
abbrev pub raised : ℕ → ℕ
raised zero = 0
raised (suc n) = suc (suc n)

abbrev mutual
  pub levels : Data → ℕ
  levels null = 0
  levels (boolean b) = 1
  levels (number n) = option_map_or (λ z. 1) (whole_of n) 0
  levels (string s) = 1
  levels (array ds) = levels_of_items ds
  levels (object ms) = levels_of_members ms

  pub levels_of_items : Items → ℕ
  levels_of_items no_items = 0
  levels_of_items (item d ds) = max (raised (levels d)) (levels_of_items ds)

  pub levels_of_members : Members → ℕ
  levels_of_members no_members = 0
  levels_of_members (member k d ms) = max (raised (levels d)) (levels_of_members ms)
