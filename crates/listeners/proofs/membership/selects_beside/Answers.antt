use Rattle.std.proofs.Common.{◌≡◌, sym, ap, ◌∙◌}
use Rattle.tree_model.specs.Key.{Key}
use Rattle.listeners.specs.Working.Items.{rank_seen, marks_seen}
use Rattle.listeners.specs.Working.Ranks.{Rank}
use Rattle.listeners.proofs.Chosen.{none_chosen, chosen_within, chosen_beyond, kept_among_others}
use Rattle.listeners.proofs.membership.selects_beside.Goals as goal

pub returns-in_default : goal.returns-in_default
returns-in_default c = none_chosen c.args.query.now c.args.view.now c.args.key.now c.child.result c.in_default.is c.child.ensures

pub returns-then-hold : goal.returns-then-hold
returns-then-hold c =
    let found = sym c.in-Some.is ∙ c.child.ensures in
    let text : c.item_of-item.result.key.text.now ≡ c.args.key.now = ap (λ (r : Rank). r.1.1) c.item_of-item.ensures in
    chosen_within c.args.query.now c.args.view.now c.args.key.now c.in-Some.child found (rank_seen c.item_of-item.result) c.item_of-item.ensures
    (marks_seen c.bounds.result) c.hold.result c.has_room_beside.result c.bounds.ensures c.hold.ensures c.if-hold.true
    (c.has_room_beside.ensures
    ∙ kept_among_others c.args.query.now c.args.view.now c.args.key.now c.in-Some.child found (rank_seen c.item_of-item.result) c.item_of-item.ensures c.args.others.now c.item_of-item.result.key.text.now c.requires text)

pub returns-else-hold : goal.returns-else-hold
returns-else-hold c =
    chosen_beyond c.args.query.now c.args.view.now c.args.key.now c.in-Some.child (sym c.in-Some.is ∙ c.child.ensures) (rank_seen c.item_of-item.result) c.item_of-item.ensures
    (marks_seen c.bounds.result) c.hold.result c.bounds.ensures c.hold.ensures c.if-hold.false
