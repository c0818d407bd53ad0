use Rattle.judge.proofs.Verdicts.{named_fails, failing_named}
use Rattle.judge.proofs.laws.each_named_rule_does_not_hold.Goals as goal

pub returns-clause-named : goal.returns-clause-named
returns-clause-named c = named_fails

pub returns-clause-all : goal.returns-clause-all
returns-clause-all c = failing_named
