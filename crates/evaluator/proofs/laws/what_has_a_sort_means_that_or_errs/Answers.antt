use Rattle.evaluator.proofs.Sorted.{sorted, variable_there, capture_found}
use Rattle.evaluator.proofs.laws.what_has_a_sort_means_that_or_errs.Goals as goal

pub returns-clause-sorts : goal.returns-clause-sorts
returns-clause-sorts c place env x s is d = sorted place env is d

pub returns-clause-variables : goal.returns-clause-variables
returns-clause-variables c place env f s is d = variable_there place env is f s d

pub returns-clause-captures : goal.returns-clause-captures
returns-clause-captures c place env f s d = capture_found place env f s d
