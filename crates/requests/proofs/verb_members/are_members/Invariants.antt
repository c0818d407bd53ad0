use Rattle.std.proofs.Common.{◌++◌}
use Rattle.serde_json.specs.View.{members_view}
use Rattle.requests.specs.Message.{form_members, verb_members}
use Rattle.requests.proofs.Messages.{LawfulAhead}
use Rattle.requests.proofs.verb_members.are_members.Given as goal

abbrev pub invariant-loop-name : goal.invariant-loop-name
invariant-loop-name l = LawfulAhead (form_members l.form ++ verb_members l.verb) (members_view l.name-iterator) (members_view l.members.entries)
