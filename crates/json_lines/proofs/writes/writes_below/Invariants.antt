use Rattle.serde_json.specs.View.{members_view}
use Rattle.json_lines.proofs.Members.{IsHalf}
use Rattle.json_lines.proofs.writes.writes_below.Given as goal

abbrev pub invariant-loop-name : goal.invariant-loop-name
invariant-loop-name l = IsHalf l.path l.writes.items (members_view l.name-iterator) (members_view l.members.entries)
