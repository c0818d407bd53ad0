-- What holds of the tree that a node is seen as.
use Rattle.std.proofs.Common.{ℕ, ◌≡◌, ◌≢◌, ◌≤◌, ◌<◌, List, Vec, Global, sym, ap, ◌∙◌, subst}
use Rattle.std.specs.List.{All}
use Rattle.tree_model.specs.declared.limits.TheConstants.{MAX_DEPTH}
use Rattle.tree_model.specs.Key.{Key}
use Rattle.tree_model.specs.PathMap.{depth}
use Rattle.tree_model.specs.Tree.{Tree, null, lone, IsLawful}
use Rattle.tree_model.specs.Children.{graft, IsLawfulChild}
use Rattle.tree_model.proofs.Existence.{depth_le}
use Rattle.tree_model.proofs.Grafts.{lone≢null, graft≢null}
use Rattle.tree_model.proofs.Lawful.{path_length}
use Rattle.json_tree.specs.declared.leaf.Leaf.{Leaf}
use Rattle.json_tree.specs.Leaf.{primitive_of}
use Rattle.json_tree.specs.Node.{tree_of, IsKind, IsSize, IsSized, AreLawfulChildren}
use Rattle.json_tree.specs.declared.node.NodeKind.{NodeKind}
use Rattle.json_tree.specs.declared.node.NodeKind.TheVariants.{Primitive, Parent}
use Rattle.json_tree.proofs.Lists.{weaker, all_from_recursion}

pub kind≢null : (k : NodeKind) → IsKind k → tree_of k ≢ null
kind≢null (Primitive leaf) h = lone≢null (primitive_of leaf)
kind≢null (Parent cs deep many) h = graft≢null cs.items h.0

pub depth_within : (t : Tree) → IsLawful t → depth t ≤ MAX_DEPTH
depth_within t h = depth_le t MAX_DEPTH (λ q there. path_length q (h.paths q there))

-- a node that is a primitive, and one that has children
pub at_primitive : {k : NodeKind} {t : Tree} {leaf : Leaf} → tree_of k ≡ t → k ≡ Primitive leaf → t ≡ lone (primitive_of leaf)
at_primitive view_is is = sym view_is ∙ ap tree_of is

pub at_parent : {k : NodeKind} {t : Tree} {cs : Vec (Key × Tree) Global} {deep many : ℕ} → tree_of k ≡ t → k ≡ Parent cs deep many → t ≡ graft cs.items
at_parent view_is is = sym view_is ∙ ap tree_of is

pub parts_at_parent : {k : NodeKind} {cs : Vec (Key × Tree) Global} {deep many : ℕ} → IsKind k → k ≡ Parent cs deep many → AreLawfulChildren cs.items
parts_at_parent h is = subst IsKind is h

-- and the size of one that has children
pub size_at_parent : {k : NodeKind} {cs : Vec (Key × Tree) Global} {deep many : ℕ} → IsSized k → k ≡ Parent cs deep many → IsSize (graft cs.items) deep many
size_at_parent h is = subst IsSized is h

-- lawful children leave room for their keys
pub room_of : (cs : List (Key × Tree)) → AreLawfulChildren cs → All (λ c. depth c.1 < MAX_DEPTH) cs
room_of cs h =
    let F : Key × Tree → Type 0 = λ c. depth c.1 < MAX_DEPTH in
    all_from_recursion F cs (weaker IsLawfulChild F (λ c lawful. lawful.depth) cs h.1)
