use Rattle.std.proofs.Common.{◌≡◌, length}
use Rattle.serde_json.specs.Data.{no_members}
use Rattle.serde_json.specs.Find.{get_member}
use Rattle.json_lines.specs.MemberName.{name_text}
use Rattle.json_lines.specs.Outline.{put_all}
use Rattle.json_lines.proofs.outline.Outline.take.Given as goal

-- those that are left say of the name what all did
abbrev pub invariant-members : goal.invariant-members
invariant-members l = get_member (name_text l.name) (put_all l.self.members.items no_members) ≡ get_member (name_text l.name) (put_all l.initial.self.members.items no_members)

abbrev pub decreases-members : goal.decreases-members
decreases-members l = length l.self.members.items
