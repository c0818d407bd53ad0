use Rattle.std.proofs.Common.{◌≤◌, length, arith}
use Rattle.std.proofs.lemmas.List.{length-take}
use Rattle.disk.proofs.Tearing.{untouched, wider}
use Rattle.disk.proofs.memory_disk.MemoryDiskDisk.write_at.Goals as goal

pub returns-then-self-clause-crash : goal.returns-then-self-clause-crash
returns-then-self-clause-crash c = λ after out. (after, out, untouched c.args.at (length c.args.bytes.now) after)

pub returns-then-stops-clause-crash : goal.returns-then-stops-clause-crash
returns-then-stops-clause-crash c = λ after out.
    let fewer : _ ≤ length c.args.bytes.now = omega (arith, length-take c.reached-reached.result c.args.bytes.now) in
    let from = c.write-written.ensures.crash after out in
    (from.0, from.1, wider c.args.at _ (length c.args.bytes.now) from.0 after fewer from.2)

pub returns-clause-crash : goal.returns-clause-crash
returns-clause-crash c = λ after out.
    let fewer : _ ≤ length c.args.bytes.now = omega (arith, length-take c.reached-reached.result c.args.bytes.now) in
    let from = c.write-written.ensures.crash after out in
    (from.0, from.1, wider c.args.at _ (length c.args.bytes.now) from.0 after fewer from.2)
