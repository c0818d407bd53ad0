use Rattle.std.proofs.Common.{drop, length}
use Rattle.json_lines.specs.DraftMembers.{drafts_named}
use Rattle.json_lines.proofs.Members.{IsHalf}
use Rattle.json_lines.proofs.draft_members.DraftMembers.into_writes.Given as goal

abbrev pub invariant-loop-entry : goal.invariant-loop-entry
invariant-loop-entry l = IsHalf l.path l.writes.items (drafts_named (drop (length l.yielded) l.fn.self)) (drafts_named l.fn.self)
