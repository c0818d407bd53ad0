-- Computed.
use Rattle.std.proofs.Common.{refl}
use Rattle.evaluator.specs.Env.{variable}
use Rattle.evaluator.specs.Members.{auth_part}
use Rattle.evaluator.specs.Members.{value_part}
use Rattle.evaluator.proofs.worked.what_auth_gives.Goals as goal

pub returns-clause-nobody : goal.returns-clause-nobody
unfolding variable auth_part value_part
returns-clause-nobody c = refl

pub returns-clause-nobody_is_nobody : goal.returns-clause-nobody_is_nobody
unfolding variable auth_part value_part
returns-clause-nobody_is_nobody c = refl

pub returns-clause-somebody_is_there : goal.returns-clause-somebody_is_there
unfolding variable auth_part value_part
returns-clause-somebody_is_there c = refl

pub returns-clause-not_comparable : goal.returns-clause-not_comparable
unfolding variable auth_part value_part
returns-clause-not_comparable c = refl

pub returns-clause-no_claim : goal.returns-clause-no_claim
unfolding variable auth_part value_part
returns-clause-no_claim c = refl
