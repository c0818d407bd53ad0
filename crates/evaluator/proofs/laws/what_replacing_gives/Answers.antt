use Rattle.evaluator.proofs.Replacing.{replaced_nowhere, replaced_first, replace_within}
use Rattle.evaluator.proofs.laws.what_replacing_gives.Goals as goal

pub returns-clause-nowhere : goal.returns-clause-nowhere
returns-clause-nowhere c text part with none = replaced_nowhere text part with none

pub returns-clause-at_the_first : goal.returns-clause-at_the_first
returns-clause-at_the_first c text part with front back some at = replaced_first text part with front back some at

pub returns-clause-within : goal.returns-clause-within
returns-clause-within c text part with some = replace_within text part with some
