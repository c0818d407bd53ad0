use Rattle.std.proofs.Common.{◌≡◌, ◌+◌, ◌*◌, take, map}
use Rattle.serde_json.specs.View.{members_view}
use Rattle.tree_model.specs.PathMap.{greatest, depth}
use Rattle.json_tree.specs.Json.{members_of}
use Rattle.json_tree.proofs.Written.{written}
use Rattle.json_tree.proofs.json_value.+write.Given as goal

abbrev pub decreases-write : goal.decreases-write
decreases-write l = 2 * depth l.node.now + 1

abbrev pub decreases-write_children : goal.decreases-write_children
decreases-write_children l = 2 * greatest (map (λ c. depth c.1 + 1) l.children.now)

abbrev pub invariant-write_children-loop-child : goal.invariant-write_children-loop-child
invariant-write_children-loop-child l = members_view l.members.entries ≡ members_of (map written (take l.child-index l.children))
