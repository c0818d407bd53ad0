use Rattle.std.proofs.Common.{drop}
use Rattle.serde_json.specs.View.{items_view, members_view}
use Rattle.json_tree.proofs.Counting.{ItemsAhead, MembersAhead}
use Rattle.json_tree.proofs.json_value.+levels.Given as goal

abbrev pub invariant-levels_of_items-loop-item : goal.invariant-levels_of_items-loop-item
invariant-levels_of_items-loop-item l = ItemsAhead l.most (items_view (drop l.item-index l.item-items)) (items_view l.items.items)

abbrev pub invariant-levels_of_members-loop-name : goal.invariant-levels_of_members-loop-name
invariant-levels_of_members-loop-name l = MembersAhead l.most (members_view l.name-iterator) (members_view l.members.entries)
