use Rattle.std.proofs.Common.{refl}
use Rattle.expr_parser.specs.Tree.{True, False, Null}
use Rattle.judge.specs.declared.verdict.Why.TheVariants.{No, Erred}
use Rattle.evaluator.specs.declared.evaluation.Outcome.TheVariants as outcomes
use Rattle.rtdb_laws.proofs.WorkedValues.{read_denied, read_granted, read_closed}
use Rattle.rtdb_laws.proofs.worked.what_reads_are_answered.Goals as goal

pub returns-clause-is_false : goal.returns-clause-is_false
returns-clause-is_false c tree now path = read_denied False True tree outcomes.No No (λ env. refl) refl now path

pub returns-clause-is_error : goal.returns-clause-is_error
returns-clause-is_error c tree now path = read_denied Null True tree outcomes.Erred Erred (λ env. refl) refl now path

pub returns-clause-is_true : goal.returns-clause-is_true
returns-clause-is_true c tree now path = read_granted True False tree (λ env. refl) now path

pub returns-clause-closed : goal.returns-clause-closed
returns-clause-closed c tree now path = read_closed True True tree now path
