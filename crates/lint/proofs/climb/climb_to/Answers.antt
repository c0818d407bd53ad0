use Rattle.std.proofs.Common.{option_map}
use Rattle.lint.proofs.Climbing.{climbed_root, climbed_step}
use Rattle.lint.proofs.climb.climb_to.Goals as goal

pub loop-name-init : goal.loop-name-init
loop-name-init c = climbed_root c.args.kind c.args.root.now c.requires

pub loop-name-preserved : goal.loop-name-preserved
loop-name-preserved c =
    climbed_step c.args.root.now.book c.args.kind c.loop-name.node.now c.in_ok-to.to.now c.in_ok-to.ensures.0
    (option_map (λ above. above.now) c.loop-name.granted) (option_map (λ above. above.now) c.loop-name.granting) c.states_true.result c.may_grant.result _ _
    c.in_ok-to.ensures.1 c.states_true.ensures c.may_grant.ensures c.first-granted.ensures c.first-granting.ensures c.loop-name.invariant
