use Rattle.judge.proofs.Stating.{rules_answer}
use Rattle.judge.proofs.laws.placed_rules_answer.Goals as goal

pub returns : goal.returns
returns c = rules_answer
