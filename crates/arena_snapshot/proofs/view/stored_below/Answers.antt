use Rattle.std.proofs.Common.{◌∷◌, [], Some, sym, ap, ◌∙◌, arith, option_map}
use Rattle.std.specs.Borrow.{Bor}
use Rattle.tree_model.specs.Key.{Key}
use Rattle.tree_model.specs.PathMap.{sub}
use Rattle.tree_model.specs.Tree.{Tree, non_null}
use Rattle.tree_model.proofs.Lookups.{sub-root}
use Rattle.arena_snapshot.proofs.Walks.{all_of, goes_on, ends, arrived}
use Rattle.arena_snapshot.proofs.view.stored_below.Goals as goal

pub loop-key-init : goal.loop-key-init
loop-key-init c = sym (sub-root c.args.node.now)

pub loop-key-preserved : goal.loop-key-preserved
loop-key-preserved c =
    let key : Key = c.key-item.result in
    goes_on c.args.node.now c.loop-key.at.now c.args.keys.now c.loop-key.key-index key (let low = c.loop-key-test.true in omega arith) c.key-item.is c.loop-key.invariant
    c.in_ok-at.at.now (ap (option_map (λ (node : Bor Tree). node.now)) (sym c.in_ok-at.was) ∙ c.child.ensures ∙ ap (λ (k : Key). non_null (sub c.loop-key.at.now (k ∷ []))) c.text.ensures.bytes)

pub returns : goal.returns
returns c =
    ap (λ (t : Tree). Some t) c.stored.ensures
    ∙ arrived c.args.node.now c.loop-key.at.now c.args.keys.now c.loop-key.key-index (all_of c.loop-key.key-index c.args.keys.now (let all = c.loop-key-test.false in omega arith)) c.loop-key.invariant c.law.ensures.some

pub returns-in_err-at : goal.returns-in_err-at
returns-in_err-at c =
    let key : Key = c.key-item.result in
    c.from_residual.ensures
    ∙ ends c.args.node.now c.loop-key.at.now c.args.keys.now c.loop-key.key-index key (let low = c.loop-key-test.true in omega arith) c.key-item.is c.loop-key.invariant
    (ap (option_map (λ (node : Bor Tree). node.now)) (sym c.in_err-at.was) ∙ c.child.ensures ∙ ap (λ (k : Key). non_null (sub c.loop-key.at.now (k ∷ []))) c.text.ensures.bytes)
