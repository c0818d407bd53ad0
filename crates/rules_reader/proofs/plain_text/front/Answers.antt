use Rattle.rules_reader.proofs.Fronts.{string_after}
use Rattle.rules_reader.proofs.plain_text.front.Goals as goal

pub returns-in-Some-clause-after : goal.returns-in-Some-clause-after
returns-in-Some-clause-after c = string_after c.args.first c.in-Some.place c.args.behind.now c.in-34.is c.in-Some.ensures.first
