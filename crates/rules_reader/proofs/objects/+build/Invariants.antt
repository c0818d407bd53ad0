use Rattle.serde_json.specs.View.{members_view}
use Rattle.rules_reader.specs.Part.{texts}
use Rattle.rules_reader.proofs.Built.{Built}
use Rattle.rules_reader.proofs.objects.+build.Given as goal

abbrev pub invariant-build_children-loop-name : goal.invariant-build_children-loop-name
invariant-build_children-loop-name l = Built (texts l.pattern) l.children.items (members_view l.name-iterator) (members_view l.members.entries)
