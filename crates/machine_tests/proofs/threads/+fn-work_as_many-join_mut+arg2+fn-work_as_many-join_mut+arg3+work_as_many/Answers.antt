use denote.Param.Send.{sendable}
use Rattle.std.proofs.Crossing.{crosses}
use Rattle.locked_server.proofs.Crossing.{hall_sync, seat_send}
use Rattle.machine_tests.proofs.threads.+fn-work_as_many-join_mut+arg2+fn-work_as_many-join_mut+arg3+work_as_many.Goals as goal

pub join_mut-said-requires-send-F : goal.join_mut-said-requires-send-F
join_mut-said-requires-send-F g t c κs within = let sync = c.requires.sync in search (sendable, crosses, hall_sync, seat_send) depth 20
