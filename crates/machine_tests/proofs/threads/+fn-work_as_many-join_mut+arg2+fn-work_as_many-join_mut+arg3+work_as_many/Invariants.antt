use Rattle.std.proofs.Common.{◌-◌}
use Rattle.machine_tests.proofs.threads.+fn-work_as_many-join_mut+arg2+fn-work_as_many-join_mut+arg3+work_as_many.Given as goal

abbrev pub decreases-join_mut+arg2 : goal.decreases-join_mut+arg2
decreases-join_mut+arg2 g l = l.half

abbrev pub decreases-join_mut+arg3 : goal.decreases-join_mut+arg3
decreases-join_mut+arg3 g l = l.count - l.half

abbrev pub decreases-work_as_many : goal.decreases-work_as_many
decreases-work_as_many g l = l.count
