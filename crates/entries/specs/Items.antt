-- The items of an array.
use Rattle.std.specs.Prelude.{List, [], ◌∷◌, Option, Some, None, option_map, option_and_then}
use Rattle.serde_json.specs.Data.{Data, Items, no_items, item}
use Rattle.serde_json.specs.Find.{as_array}

-- the two items, where there are two
abbrev pub two : Items → Option (Data × Data)
two no_items = None
two (item a no_items) = None
two (item a (item b no_items)) = Some (a, b)
two (item a (item b (item c ds))) = None

-- the two items of an array of two
abbrev pub pair_in : Data → Option (Data × Data)
pair_in d = option_and_then two (as_array d)

-- what each item is, in their order, where each is something
abbrev pub each : {X : Type 0} → (Data → Option X) → Items → Option (List X)
each f no_items = Some []
each f (item d ds) = option_and_then (λ x. option_map (λ xs. x ∷ xs) (each f ds)) (f d)

-- what each item of an array is
abbrev pub each_in : {X : Type 0} → (Data → Option X) → Data → Option (List X)
each_in f d = option_and_then (each f) (as_array d)
