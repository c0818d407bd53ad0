use Rattle.std.proofs.Common.{◌+◌, ◌*◌, map}
use Rattle.tree_model.specs.PathMap.{greatest, depth}
use Rattle.json_tree.proofs.node.+room.Given as goal

abbrev pub decreases-Node::text_room : goal.decreases-Node::text_room
decreases-Node::text_room l = 2 * depth l.self.now + 1

abbrev pub decreases-room_below : goal.decreases-room_below
decreases-room_below l = 2 * greatest (map (λ c. depth c.1 + 1) l.children.now.items)
