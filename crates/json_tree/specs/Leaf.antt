-- The primitive that a leaf is.
use Rattle.tree_model.specs.Primitive.{Primitive, truth, whole, words}
use Rattle.json_tree.specs.declared.leaf.Leaf.{Leaf}
use Rattle.json_tree.specs.declared.leaf.Leaf.TheVariants.{Truth, Whole, Words}

-- a boolean, a whole number or a text, as the definitions have it
abbrev pub primitive_of : Leaf → Primitive
primitive_of (Truth b) = truth b
primitive_of (Whole z) = whole z
primitive_of (Words s) = words s
