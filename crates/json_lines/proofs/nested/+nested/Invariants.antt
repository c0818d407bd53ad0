use Rattle.std.proofs.Common.{◌+◌, ◌*◌, ◌≤◌, length}
use Rattle.serde_json.specs.Data.{no_members}
use Rattle.json_lines.specs.DraftMembers.{members_named, drafts_named}
use Rattle.json_lines.proofs.Reading.{Leads, LeadsFrom}
use Rattle.json_lines.proofs.nested.+nested.Given as goal

abbrev pub decreases-draft_from : goal.decreases-draft_from
decreases-draft_from l = 3 * l.depth

abbrev pub decreases-drafts_from : goal.decreases-drafts_from
decreases-drafts_from l = 3 * l.depth + 1

abbrev pub decreases-object_from : goal.decreases-object_from
decreases-object_from l = 3 * l.depth + 2

abbrev pub invariant-drafts_from-children : goal.invariant-drafts_from-children
invariant-drafts_from-children l = record {
  leads : LeadsFrom (drafts_named l.fn.drafts) l.depth l.initial.reader l.reader (drafts_named l.drafts);
  shorter : length l.reader ≤ length l.initial.reader;
}

abbrev pub decreases-drafts_from-children : goal.decreases-drafts_from-children
decreases-drafts_from-children l = length l.reader

abbrev pub invariant-object_from-children : goal.invariant-object_from-children
invariant-object_from-children l = record {
  leads : Leads l.depth l.initial.reader l.reader (members_named l.children);
  shorter : length l.reader ≤ length l.initial.reader;
}

abbrev pub decreases-object_from-children : goal.decreases-object_from-children
decreases-object_from-children l = length l.reader
