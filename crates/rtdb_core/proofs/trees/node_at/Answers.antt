use Rattle.std.proofs.Common.{◌∙◌, [], ◌∷◌, ap, sym}
use Rattle.tree_model.specs.Key.{Key}
use Rattle.tree_model.specs.PathMap.{sub}
use Rattle.tree_model.specs.Tree.{non_null}
use Rattle.tree_model.proofs.Existence.{non_null-some}
use Rattle.tree_model.proofs.Lookups.{sub-root}
use Rattle.rtdb_core.proofs.Walks.{walked, nothing_there}
use Rattle.rtdb_core.proofs.trees.node_at.Goals as goal

pub loop-key-init : goal.loop-key-init
loop-key-init c = sym (non_null-some c.args.root.now c.law.ensures.some) ∙ ap non_null (sym (sub-root c.args.root.now))

pub returns-in_default : goal.returns-in_default
returns-in_default c =
    nothing_there c.args.root.now c.loop-key.node.now c.args.path.now c.loop-key.key-index c.key-item.result c.loop-key-test.true c.key-item.is c.loop-key.invariant (c.in_default.ensures ∙ ap (λ (k : Key). non_null (sub c.loop-key.node.now (k ∷ []))) c.text.ensures.bytes)

pub loop-key-preserved : goal.loop-key-preserved
loop-key-preserved c =
    walked c.args.root.now c.loop-key.node.now c.in-Some.next.now c.args.path.now c.loop-key.key-index c.key-item.result c.loop-key-test.true c.key-item.is c.loop-key.invariant (c.in-Some.ensures ∙ ap (λ (k : Key). non_null (sub c.loop-key.node.now (k ∷ []))) c.text.ensures.bytes)
