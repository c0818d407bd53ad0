use Rattle.std.proofs.Common.{length}
use Rattle.serde_json.specs.Data.{no_members}
use Rattle.json_lines.specs.Outline.{put_all}
use Rattle.json_lines.proofs.Reading.{Leads}
use Rattle.json_lines.proofs.outline.read_members.Given as goal

abbrev pub invariant-members : goal.invariant-members
invariant-members l = Leads 126 l.initial.reader l.reader (put_all l.members.items no_members)

abbrev pub decreases-members : goal.decreases-members
decreases-members l = length l.reader
