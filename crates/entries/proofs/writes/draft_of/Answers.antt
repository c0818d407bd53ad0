use Rattle.entries.proofs.Pairs.{draft_is}
use Rattle.entries.proofs.writes.draft_of.Goals as goal

pub returns-in-Ok : goal.returns-in-Ok
returns-in-Ok c = draft_is _ _ _ c.in-Ok.ensures.lawful c.in-Ok.ensures.depth c.in-Ok.ensures.draft
