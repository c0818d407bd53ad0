use Rattle.json_lines.proofs.Drafts.{draft_told}
use Rattle.json_lines.proofs.writes.draft_with_moments.Goals as goal

pub returns-in-Ok : goal.returns-in-Ok
returns-in-Ok c = draft_told _ c.in-Ok.draft c.in-Ok.ensures.lawful c.in-Ok.ensures.depth c.in-Ok.ensures.draft
