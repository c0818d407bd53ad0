use Rattle.std.proofs.Common.{◌-◌}
use Rattle.server.proofs.shifts.+fn-work_all-join_mut+arg2+fn-work_all-join_mut+arg3+work_all.Given as goal

abbrev pub decreases-join_mut+arg2 : goal.decreases-join_mut+arg2
decreases-join_mut+arg2 g l = l.half

abbrev pub decreases-join_mut+arg3 : goal.decreases-join_mut+arg3
decreases-join_mut+arg3 g l = l.workers - l.half

abbrev pub decreases-work_all : goal.decreases-work_all
decreases-work_all g l = l.workers
