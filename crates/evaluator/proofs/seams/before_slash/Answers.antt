use Rattle.evaluator.proofs.Leading.{segments-cut_end}
use Rattle.evaluator.proofs.seams.before_slash.Goals as goal

pub returns : goal.returns
returns c = segments-cut_end c.args.text.now c.split_at.result.0.now (c.ends_with_slash.ensures c.if-not-ends_with_slash.false) c.split_at.ensures.front
