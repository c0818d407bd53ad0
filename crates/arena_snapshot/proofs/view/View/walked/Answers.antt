use Rattle.std.proofs.Common.{◌∷◌, [], sym, ap, ◌∙◌, arith}
use Rattle.tree_model.specs.Key.{Key}
use Rattle.tree_model.specs.PathMap.{sub}
use Rattle.tree_model.specs.Tree.{non_null}
use Rattle.tree_model.proofs.Lookups.{sub-root}
use Rattle.arena_snapshot.proofs.Walks.{all_of, goes_on, ends, arrived}
use Rattle.arena_snapshot.proofs.view.View.walked.Goals as goal

pub loop-key-init : goal.loop-key-init
loop-key-init c = c.share-view.ensures ∙ sym (sub-root c.args.self.now)

pub loop-key-preserved : goal.loop-key-preserved
loop-key-preserved c =
    let key : Key = c.key-item.result in
    goes_on c.args.self.now c.loop-key.view c.args.keys.now c.loop-key.key-index key (let low = c.loop-key-test.true in omega arith) c.key-item.is c.loop-key.invariant
    c.in_ok-view.view (sym c.in_ok-view.was ∙ c.child.ensures ∙ ap (λ (k : Key). non_null (sub c.loop-key.view (k ∷ []))) c.text.ensures.bytes)

pub returns : goal.returns
returns c =
    arrived c.args.self.now c.loop-key.view c.args.keys.now c.loop-key.key-index (all_of c.loop-key.key-index c.args.keys.now (let all = c.loop-key-test.false in omega arith)) c.loop-key.invariant c.law.ensures.some

pub returns-in_err-view : goal.returns-in_err-view
returns-in_err-view c =
    let key : Key = c.key-item.result in
    c.from_residual.ensures
    ∙ ends c.args.self.now c.loop-key.view c.args.keys.now c.loop-key.key-index key (let low = c.loop-key-test.true in omega arith) c.key-item.is c.loop-key.invariant
    (sym c.in_err-view.was ∙ c.child.ensures ∙ ap (λ (k : Key). non_null (sub c.loop-key.view (k ∷ []))) c.text.ensures.bytes)
