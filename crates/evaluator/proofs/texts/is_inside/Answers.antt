use Rattle.evaluator.proofs.Inside.{is_inside_where}
use Rattle.evaluator.proofs.texts.is_inside.Goals as goal

pub returns : goal.returns
returns c = is_inside_where c.contains.result c.args.part.now c.args.text.now c.contains.ensures.cases
