use Rattle.entries.proofs.Fronts.{stripped_some, stripped_none}
use Rattle.entries.proofs.items.behind.Goals as goal

pub returns-clause-some : goal.returns-clause-some
returns-clause-some c = stripped_some c.args.text.now c.args.front.now c.strip_prefix.result c.strip_prefix.ensures.cases

pub returns-clause-none : goal.returns-clause-none
returns-clause-none c = stripped_none c.args.text.now c.args.front.now c.strip_prefix.result c.strip_prefix.ensures.cases
