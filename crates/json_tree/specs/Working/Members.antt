-- The children that the members of an object make.
use Rattle.std.specs.Prelude.{ℕ, suc, List, [], ◌∷◌, if◌then◌else◌, Option, decimal}
use Rattle.serde_json.specs.Data.{Data, Items, no_items, item, Members, no_members, member}
use Rattle.tree_model.specs.Key.{Key}
use Rattle.tree_model.specs.PathMap.{PathMap, is_null}
use Rattle.json_tree.specs.Json.{read_by}

-- an array from the index i on, as members
abbrev pub members_at : ℕ → Items → Members
members_at i no_items = no_members
members_at i (item d ds) = member (decimal i) d (members_at (suc i) ds)

-- the members that are not null, each with what its leaves make
abbrev pub children_of : {X : Type 0} → (Data → Option X) → Members → List (Key × PathMap X)
children_of f no_members = []
children_of f (member k d ms) = if is_null (read_by f d) then children_of f ms else (k, read_by f d) ∷ children_of f ms
