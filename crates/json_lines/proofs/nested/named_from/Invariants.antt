use Rattle.std.proofs.Common.{◌≤◌, length}
use Rattle.json_lines.specs.DraftMembers.{drafts_named}
use Rattle.json_lines.proofs.Reading.{Leads}
use Rattle.json_lines.proofs.nested.named_from.Given as goal

abbrev pub invariant-members : goal.invariant-members
invariant-members l = record {
  leads : Leads l.depth l.initial.reader l.reader (drafts_named l.named);
  shorter : length l.reader ≤ length l.initial.reader;
}

abbrev pub decreases-members : goal.decreases-members
decreases-members l = length l.reader
