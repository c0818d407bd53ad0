use Rattle.store.proofs.Steps.{ran_none, ran_applied, ran_skipped}
use Rattle.store.proofs.leaving.run_first.Goals as goal

pub returns-in-Ran-Empty : goal.returns-in-Ran-Empty
returns-in-Ran-Empty c = ran_none c.args.core.now c.args.now c.args.session c.requires.opened c.requires.leaving c.step.new.self c.step.result _ c.in-Ran-Empty.is c.in-Ran-Empty.field-0-is c.step.ensures

pub returns-in-Ran-Applied : goal.returns-in-Ran-Applied
returns-in-Ran-Applied c = ran_applied c.args.core.now c.args.now c.args.session c.requires.opened c.requires.leaving c.step.new.self c.step.result _ c.in-Ran-Applied.is c.in-Ran-Applied.field-0-is c.step.ensures

pub returns-in-Ran-Skipped : goal.returns-in-Ran-Skipped
returns-in-Ran-Skipped c = ran_skipped c.args.core.now c.args.now c.args.session c.requires.opened c.requires.leaving c.step.new.self c.step.result _ _ c.in-Ran-Skipped.is c.in-Ran-Skipped.field-0-is c.step.ensures
