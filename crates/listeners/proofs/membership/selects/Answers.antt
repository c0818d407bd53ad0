use Rattle.listeners.proofs.Chosen.{none_chosen, chosen_within, chosen_beyond}
use Rattle.std.proofs.Common.{sym, ◌∙◌}
use Rattle.listeners.specs.Working.Items.{rank_seen, marks_seen}
use Rattle.listeners.proofs.membership.selects.Goals as goal

pub returns-in_default : goal.returns-in_default
returns-in_default c = none_chosen c.args.query.now c.args.view.now c.args.key.now c.child.result c.in_default.is c.child.ensures

pub returns-then-hold : goal.returns-then-hold
returns-then-hold c =
    chosen_within c.args.query.now c.args.view.now c.args.key.now c.in-Some.child (sym c.in-Some.is ∙ c.child.ensures) (rank_seen c.item_of-item.result) c.item_of-item.ensures
    (marks_seen c.bounds.result) c.hold.result c.has_room.result c.bounds.ensures c.hold.ensures c.if-hold.true c.has_room.ensures

pub returns-else-hold : goal.returns-else-hold
returns-else-hold c =
    chosen_beyond c.args.query.now c.args.view.now c.args.key.now c.in-Some.child (sym c.in-Some.is ∙ c.child.ensures) (rank_seen c.item_of-item.result) c.item_of-item.ensures
    (marks_seen c.bounds.result) c.hold.result c.bounds.ensures c.hold.ensures c.if-hold.false
