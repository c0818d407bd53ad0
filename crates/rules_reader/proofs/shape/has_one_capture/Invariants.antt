use Rattle.serde_json.specs.View.{members_view}
use Rattle.rules_reader.proofs.Ahead.{OneAhead}
use Rattle.rules_reader.proofs.shape.has_one_capture.Given as goal

abbrev pub invariant-loop-name : goal.invariant-loop-name
invariant-loop-name l = OneAhead l.found (members_view l.name-iterator) (members_view l.members.entries)
