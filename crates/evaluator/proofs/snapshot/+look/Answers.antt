use Rattle.std.proofs.Common.{◌∙◌, ap}
use Rattle.evaluator.specs.Working.Places.{down}
use Rattle.evaluator.proofs.Places.{down_is}
use Rattle.evaluator.proofs.snapshot.+look.Goals as goal

pub looked_up-returns : goal.looked_up-returns
looked_up-returns t c = c.child_of.ensures.child ∙ ap (down c.args.key.now) c.view.ensures ∙ down_is c.args.above.now.0 c.args.above.now.1 c.args.key.now
