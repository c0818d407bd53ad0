use Rattle.std.proofs.Common.{◌≡◌}
use Rattle.serde_json.specs.View.{members_view}
use Rattle.rules_reader.specs.Part.{texts}
use Rattle.rules_reader.proofs.Builds.{Counted}
use Rattle.rules_reader.proofs.shape.+count_rules.Given as goal

abbrev pub invariant-count_rules_below-loop-name : goal.invariant-count_rules_below-loop-name
invariant-count_rules_below-loop-name l = record {
  counted : Counted (texts l.fn.pattern) l.count (members_view l.name-iterator) (members_view l.members.entries);
  back : l.pattern ≡ l.fn.pattern;
}
