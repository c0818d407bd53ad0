use Rattle.serde_json.specs.View.{members_view}
use Rattle.rules_reader.specs.Part.{texts}
use Rattle.rules_reader.proofs.Builds.{listed_ascend}
use Rattle.rules_reader.proofs.RulesBelow.{faulty_inner-none}
use Rattle.rules_reader.proofs.objects.law_of_members.Goals as goal

pub returns-clause-ascending : goal.returns-clause-ascending
returns-clause-ascending c = listed_ascend c.args.members.now.entries c.iter-members.ensures.ordered

pub returns-clause-sound : goal.returns-clause-sound
returns-clause-sound c = faulty_inner-none (texts c.args.pattern.now) (members_view c.args.members.now.entries) c.requires
