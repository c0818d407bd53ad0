use Rattle.std.proofs.Common.{drop}
use Rattle.serde_json.specs.View.{items_view, members_view}
use Rattle.json_tree.specs.Json.{primitive_in}
use Rattle.json_tree.specs.Working.Members.{members_at, children_of}
use Rattle.json_tree.proofs.Building.{ItemsBuilt, MembersBuilt}
use Rattle.json_tree.proofs.json_value.+build.Given as goal

abbrev pub invariant-build_items-loop-index : goal.invariant-build_items-loop-index
invariant-build_items-loop-index l = ItemsBuilt l.children.items l.index (items_view (drop l.index l.item-items)) (children_of primitive_in (members_at 0 (items_view l.items.items)))

abbrev pub invariant-build_members-loop-name : goal.invariant-build_members-loop-name
invariant-build_members-loop-name l = MembersBuilt l.children.items (members_view l.name-iterator) (children_of primitive_in (members_view l.members.entries))
