use Rattle.evaluator.proofs.Places.{key_of_child}
use Rattle.evaluator.proofs.snapshot.child_of.Goals as goal

pub returns-in-Some-clause-lawful : goal.returns-in-Some-clause-lawful
returns-in-Some-clause-lawful c = key_of_child _ c.args.key.now _ c.law.ensures.lawful c.child.ensures
