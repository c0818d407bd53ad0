use Rattle.std.proofs.Common.{subst}
use Rattle.tree_model.specs.Key.{Key}
use Rattle.rules_reader.specs.Node.{Steps, NoneMatches}
use Rattle.rules_reader.proofs.Reached.{reached_root, reached_step, not_reached}
use Rattle.rules_reader.proofs.rules.node_at.Goals as goal

pub loop-key-init : goal.loop-key-init
loop-key-init c = reached_root c.args.root.now c.requires.at c.requires.listed

pub loop-key-preserved : goal.loop-key-preserved
loop-key-preserved c = reached_step c.args.root.now.book c.loop-key.node.now c.in_ok-node.node.now c.args.path.now c.loop-key.key-index c.key-item.result c.loop-key-test.true c.key-item.is c.loop-key.invariant (subst (λ (k : Key). Steps c.loop-key.node.now k c.in_ok-node.node.now) c.text.ensures.bytes c.in_ok-node.ensures.found)

pub returns-in_err-node-clause-none : goal.returns-in_err-node-clause-none
returns-in_err-node-clause-none c =
    rw c.from_residual.ensures (λ p. not_reached c.args.root.now.book c.loop-key.node.now c.args.path.now c.loop-key.key-index c.key-item.result p c.requires.one c.loop-key-test.true c.key-item.is c.loop-key.invariant (subst (λ (k : Key). NoneMatches c.loop-key.node.now.book k) c.text.ensures.bytes c.in_err-node.ensures.none))
