use Rattle.std.proofs.Common.{drop}
use Rattle.serde_json.specs.View.{items_view, members_view}
use Rattle.json_tree.specs.Draft.{part_in}
use Rattle.json_tree.specs.Working.Members.{members_at, children_of}
use Rattle.json_tree.proofs.Drafting.{ItemsDrafted, MembersDrafted}
use Rattle.json_tree.proofs.draft_value.+build_draft.Given as goal

abbrev pub invariant-build_draft_items-loop-index : goal.invariant-build_draft_items-loop-index
invariant-build_draft_items-loop-index l = ItemsDrafted l.children.items l.index (items_view (drop l.index l.item-items)) (children_of part_in (members_at 0 (items_view l.items.items)))

abbrev pub invariant-build_draft_members-loop-name : goal.invariant-build_draft_members-loop-name
invariant-build_draft_members-loop-name l = MembersDrafted l.children.items (members_view l.name-iterator) (children_of part_in (members_view l.members.entries))
