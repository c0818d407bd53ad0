use Rattle.std.proofs.Common.{length, ap, ◌∙◌, arith}
use Rattle.tree_model.proofs.Lawful.{path_length}
use Rattle.request_explainer.proofs.Prefixes.{all_prefixes, next_prefix}
use Rattle.request_explainer.proofs.places.prefixes_of.Goals as goal

pub front-requires-clause-few : goal.front-requires-clause-few
front-requires-clause-few c =
    let same = ap length c.keys-keys.ensures.keys in
    let long = path_length c.args.path.now c.keys-keys.ensures.lawful in
    omega (arith, same, long)

pub loop-count-preserved : goal.loop-count-preserved
loop-count-preserved c =
    let same = ap length c.keys-keys.ensures.keys in
    let within = c.loop-count-test.true in
    next_prefix c.loop-count.places.items c.push.new.self.items c.in_ok-front.field-0 c.keys-keys.result.now c.args.path.now c.loop-count.count c.in_ok-push.ensures.items c.in_ok-front.ensures c.keys-keys.ensures.keys (omega (arith, same, within)) c.loop-count.invariant

pub returns : goal.returns
returns c =
    let same = ap length c.keys-keys.ensures.keys in
    let past = c.loop-count-test.false in
    c.loop-count.invariant ∙ all_prefixes c.args.path.now c.loop-count.count (omega (arith, same, past))
