use Rattle.disk.proofs.Tearing.{uncut}
use Rattle.disk.proofs.file_disk.FileDiskDisk.cut.Goals as goal

pub returns-then-self-clause-crash : goal.returns-then-self-clause-crash
returns-then-self-clause-crash c = λ after any. (after, tt, uncut c.args.len after)

pub returns-clause-crash : goal.returns-clause-crash
returns-clause-crash c = λ after any. (after, tt, uncut c.args.len after)
