use Rattle.json_lines.proofs.Drafts.{draft_read_back, null_read_back}
use Rattle.json_lines.proofs.draft_members.is_read_back.Goals as goal

pub returns-in-Some : goal.returns-in-Some
returns-in-Some c = rw c.in-Some.is (draft_read_back c.in-Some.draft c.law.ensures.lawful c.law.ensures.depth)

pub returns-in-None : goal.returns-in-None
returns-in-None c = rw c.in-None.is null_read_back
