use Rattle.std.proofs.Common.{ℕ, List, arith, subst, sym}
use Rattle.rules_reader.proofs.Cuts.{Goes, goes_on, goes_to_the_end, shorter, plain_long}
use Rattle.rules_reader.proofs.plain_text.plain.Goals as goal

pub slice_bounds-push_plain-count : goal.slice_bounds-push_plain-count
slice_bounds-push_plain-count c =
    let less = shorter c.loop-rest.rest.now c.front-kind.result.1.now (omega arith) c.front-kind.ensures.after in
    omega arith

pub loop-rest-preserved : goal.loop-rest-preserved
loop-rest-preserved c =
    subst (λ (done : List ℕ). Goes c.args.file.now done c.front-kind.result.1.now) (sym (c.in_ok-push_plain.ensures))
    (goes_on c.args.file.now c.loop-rest.text.items c.loop-rest.rest.now c.front-kind.result.1.now c.front-kind.result.0 (omega arith) c.loop-rest.invariant c.front-kind.ensures.kind c.front-kind.ensures.after)

pub loop-rest-smaller : goal.loop-rest-smaller
loop-rest-smaller c = shorter c.loop-rest.rest.now c.front-kind.result.1.now (omega arith) c.front-kind.ensures.after

pub returns-clause-plain : goal.returns-clause-plain
returns-clause-plain c = goes_to_the_end c.args.file.now c.loop-rest.text.items c.loop-rest.rest.now (omega arith) c.loop-rest.invariant

pub returns-clause-length : goal.returns-clause-length
returns-clause-length c = plain_long c.args.file.now c.loop-rest.text.items (goes_to_the_end c.args.file.now c.loop-rest.text.items c.loop-rest.rest.now (omega arith) c.loop-rest.invariant)
