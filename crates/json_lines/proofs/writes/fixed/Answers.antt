use Rattle.json_lines.proofs.Drafts.{null_drafted}
use Rattle.json_lines.proofs.writes.fixed.Goals as goal

pub returns-in-None : goal.returns-in-None
returns-in-None c = rw c.in-None.is null_drafted
