use Rattle.std.proofs.Common.{drop}
use Rattle.serde_json.specs.View.{items_view, members_view}
use Rattle.json_tree.specs.Draft.{filled_items, filled_members}
use Rattle.json_tree.proofs.Counting.{ItemsAhead, MembersAhead}
use Rattle.json_tree.proofs.draft_value.+draft_levels.Given as goal

abbrev pub invariant-draft_levels_of_items-loop-item : goal.invariant-draft_levels_of_items-loop-item
invariant-draft_levels_of_items-loop-item l = ItemsAhead l.most (filled_items (items_view (drop l.item-index l.item-items))) (filled_items (items_view l.items.items))

abbrev pub invariant-draft_levels_of_members-loop-name : goal.invariant-draft_levels_of_members-loop-name
invariant-draft_levels_of_members-loop-name l = MembersAhead l.most (filled_members (members_view l.name-iterator)) (filled_members (members_view l.members.entries))
