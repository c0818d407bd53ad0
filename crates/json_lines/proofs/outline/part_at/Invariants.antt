use Rattle.std.proofs.Common.{◌≡◌, ◌≤◌, length, take}
use Rattle.serde_json.specs.Data.{no_members}
use Rattle.serde_json.specs.Find.{get_member}
use Rattle.json_lines.specs.MemberName.{name_text}
use Rattle.json_lines.specs.Outline.{put_all}
use Rattle.json_lines.proofs.outline.part_at.Given as goal

-- those that are left say of the name what all do
abbrev pub invariant-members : goal.invariant-members
invariant-members l =
    (l.left ≤ length l.members)
    × (get_member (name_text l.name) (put_all (take l.left l.members) no_members) ≡ get_member (name_text l.name) (put_all l.members no_members))

abbrev pub decreases-members : goal.decreases-members
decreases-members l = l.left
