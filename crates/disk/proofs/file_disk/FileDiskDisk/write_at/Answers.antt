use Rattle.std.proofs.Common.{length}
use Rattle.disk.proofs.Tearing.{untouched}
use Rattle.disk.proofs.file_disk.FileDiskDisk.write_at.Goals as goal

pub returns-then-self-clause-crash : goal.returns-then-self-clause-crash
returns-then-self-clause-crash c = λ after any. (after, tt, untouched c.args.at (length c.args.bytes.now) after)

pub returns-clause-crash : goal.returns-clause-crash
returns-clause-crash c = λ after any. (after, tt, untouched c.args.at (length c.args.bytes.now) after)
