-- What a node is seen as, and what holds of its parts.
use Rattle.std.specs.Prelude.{◌≡◌, ℕ, ◌-◌, ◌^◌, min, List}
use Rattle.std.specs.List.{AllByRecursion}
use Rattle.tree_model.specs.Key.{Key}
use Rattle.tree_model.specs.PathMap.{depth}
use Rattle.tree_model.specs.Tree.{Tree, lone, count, IsLawful}
use Rattle.tree_model.specs.Children.{graft, AreChildren, IsLawfulChild}
use Rattle.json_tree.specs.Leaf.{primitive_of}
use Rattle.json_tree.specs.declared.node.NodeKind.{NodeKind}
use Rattle.json_tree.specs.declared.node.NodeKind.TheVariants.{Primitive, Parent}

-- the tree that a node holds: a primitive at the root, or children below their keys
abbrev pub tree_of : NodeKind → Tree
tree_of (Primitive leaf) = lone (primitive_of leaf)
tree_of (Parent children deep many) = graft children.items

-- children that may stand together, each lawful below its key
abbrev pub AreLawfulChildren : List (Key × Tree) → Type 0
AreLawfulChildren cs = AreChildren cs × AllByRecursion IsLawfulChild cs

-- a leaf, or lawful children
abbrev pub IsKind : NodeKind → Type 0
IsKind (Primitive leaf) = Unit {0}
IsKind (Parent children deep many) = AreLawfulChildren children.items

-- the depth and the count of a tree, the count up to the greatest `usize`
pub record IsSize (t : Tree) (deep many : ℕ) : Type 0 where
  pub depth : deep ≡ depth t
  pub count : many ≡ min (count t) (2 ^ 64 - 1)

-- a parent knows the depth and the count of its tree
abbrev pub IsSized : NodeKind → Type 0
IsSized (Primitive leaf) = Unit {0}
IsSized (Parent children deep many) = IsSize (graft children.items) deep many

-- the parts of a node
pub record IsNode (kind : NodeKind) : Type 0 where
  pub parts : IsKind kind
  pub lawful : IsLawful (tree_of kind)
  pub sized : IsSized kind
