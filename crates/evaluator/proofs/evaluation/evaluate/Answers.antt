use Rattle.evaluator.specs.Env.{env_of}
use Rattle.evaluator.proofs.Sorted.{checked_value}
use Rattle.evaluator.proofs.evaluation.evaluate.Goals as goal

pub returns-in-Err-Erred-clause-sorted : goal.returns-in-Err-Erred-clause-sorted
returns-in-Err-Erred-clause-sorted c = checked_value c.args.checked.now (env_of c.args.env.now) c.law.ensures c.requires

pub returns-in-Err-NoMemory-clause-sorted : goal.returns-in-Err-NoMemory-clause-sorted
returns-in-Err-NoMemory-clause-sorted c = checked_value c.args.checked.now (env_of c.args.env.now) c.law.ensures c.requires
