-- The tree that a JSON value describes, and the value that a tree is written as.
use Rattle.std.specs.Prelude.{ℕ, zero, suc, ◌&&◌, List, [], ◌∷◌, ◌++◌, map, Bool, true, ℤ, if◌then◌else◌, Option, Some, None, is_some, option_map, option_and_then, decimal}
use Rattle.std.specs.Option.{option_map_or}
use Rattle.std.specs.FinMap as map_of
use Rattle.serde_json.specs.Data.{Num, Data, null, boolean, number, string, array, object, Items, no_items, item, Members, no_members, member}
use Rattle.serde_json.specs.Find.{as_i64, of_integer}
use Rattle.tree_model.specs.Key.{Key, is_key}
use Rattle.tree_model.specs.Path.{Path}
use Rattle.tree_model.specs.Primitive.{Primitive, truth, whole, words, is_whole, is_text}
use Rattle.tree_model.specs.PathMap.{PathMap, get, depth, under}
use Rattle.tree_model.specs.Tree.{Tree, children}

-- ---- what a value describes

-- the whole number within the limits that a number is, if it is one. (This project's profile.)
abbrev pub whole_of : Num → Option ℤ
whole_of n = option_and_then (λ z. if is_whole z then Some z else None) (as_i64 n)

-- each key and each primitive is lawful, also a key over null. (This project's profile.)
abbrev mutual
  pub is_lawful : Data → Bool
  is_lawful null = true
  is_lawful (boolean b) = true
  is_lawful (number n) = is_some (whole_of n)
  is_lawful (string s) = is_text s
  is_lawful (array ds) = are_lawful_items ds
  is_lawful (object ms) = are_lawful_members ms

  pub are_lawful_items : Items → Bool
  are_lawful_items no_items = true
  are_lawful_items (item d ds) = is_lawful d && are_lawful_items ds

  pub are_lawful_members : Members → Bool
  are_lawful_members no_members = true
  are_lawful_members (member k d ms) = is_key k && is_lawful d && are_lawful_members ms

-- the primitive that a value is, if it is one
abbrev pub primitive_in : Data → Option Primitive
primitive_in (boolean b) = Some (truth b)
primitive_in (number n) = option_map whole (whole_of n)
primitive_in (string s) = Some (words s)
primitive_in d = None

-- the leaves of a value with their paths, where f says which values are leaves: an array has the keys 0, 1, 2 and so on, and null has none. (Guide "Structure Your Database", how data is structured; arrays: this project's profile.)
abbrev mutual
  pub leaves : {X : Type 0} → (Data → Option X) → Data → List (Path × X)
  leaves f null = []
  leaves f (array ds) = leaves_of_items f 0 ds
  leaves f (object ms) = option_map_or (λ x. ([], x) ∷ []) (f (object ms)) (leaves_of_members f ms)
  leaves f d = option_map_or (λ x. ([], x) ∷ []) (f d) []

  -- from the key i on
  pub leaves_of_items : {X : Type 0} → (Data → Option X) → ℕ → Items → List (Path × X)
  leaves_of_items f i no_items = []
  leaves_of_items f i (item d ds) = under (decimal i) (leaves f d) ++ leaves_of_items f (suc i) ds

  pub leaves_of_members : {X : Type 0} → (Data → Option X) → Members → List (Path × X)
  leaves_of_members f no_members = []
  leaves_of_members f (member k d ms) = under k (leaves f d) ++ leaves_of_members f ms

-- what the leaves of a value make, each at its path
unfoldable pub read_by : {X : Type 0} → (Data → Option X) → Data → PathMap X
read_by f d = map_of.from_entries (leaves f d)

-- the tree that a value describes
abbrev pub of_json : Data → Tree
of_json d = read_by primitive_in d

-- ---- the value of a tree

-- the value that a primitive is written as
abbrev pub data_of : Primitive → Data
data_of (truth b) = boolean b
data_of (whole z) = number (of_integer z)
data_of (words s) = string s

-- an object's members, in this order
abbrev pub members_of : List (Key × Data) → Members
members_of [] = no_members
members_of (m ∷ ms) = member m.0 m.1 (members_of ms)

-- an object, or null where nothing is left
abbrev pub object_of : List (Key × Data) → Data
object_of [] = null
object_of (m ∷ ms) = object (member m.0 m.1 (members_of ms))

-- what f says of the root, or an object of the children's values, down to a depth
abbrev pub value_by : {X : Type 0} → (X → Data) → ℕ → PathMap X → Data
value_by f zero t = option_map_or f (get t []) null
value_by f (suc n) t = option_map_or f (get t []) (object_of (map (λ c. (c.0, value_by f n c.1)) (map_of.entries (children t))))

-- the value that a tree is written as: of objects alone. (This project's profile.)
unfoldable pub value_of : Tree → Data
value_of t = value_by data_of (depth t) t
