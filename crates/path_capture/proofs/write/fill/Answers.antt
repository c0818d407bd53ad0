use Rattle.path_capture.proofs.Drafted.{null_filled}
use Rattle.path_capture.proofs.write.fill.Goals as goal

pub returns-in-None : goal.returns-in-None
returns-in-None c = rw c.in-None.is (null_filled c.args.now)
