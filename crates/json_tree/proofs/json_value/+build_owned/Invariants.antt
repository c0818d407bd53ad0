use Rattle.serde_json.specs.View.{members_view}
use Rattle.json_tree.specs.Json.{primitive_in}
use Rattle.json_tree.specs.Working.Members.{children_of}
use Rattle.json_tree.proofs.Building.{MembersBuilt}
use Rattle.json_tree.proofs.json_value.+build_owned.Given as goal

abbrev pub invariant-build_owned_members-loop-name : goal.invariant-build_owned_members-loop-name
invariant-build_owned_members-loop-name l = MembersBuilt l.children.items (members_view l.name-iterator) (children_of primitive_in (members_view l.fn.members.entries))
