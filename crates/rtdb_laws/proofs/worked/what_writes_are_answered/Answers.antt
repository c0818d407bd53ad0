use Rattle.std.proofs.Common.{refl}
use Rattle.expr_parser.specs.Tree.{True, False}
use Rattle.judge.specs.declared.verdict.Why.TheVariants.{No}
use Rattle.evaluator.specs.declared.evaluation.Outcome.TheVariants as outcomes
use Rattle.rtdb_laws.proofs.WorkedValues.{write_denied, write_made}
use Rattle.rtdb_laws.proofs.worked.what_writes_are_answered.Goals as goal

pub returns-clause-is_false : goal.returns-clause-is_false
returns-clause-is_false c tree now write = write_denied True False tree outcomes.No No (λ env. refl) refl now write

pub returns-clause-is_true : goal.returns-clause-is_true
returns-clause-is_true c tree now write fits = write_made False True tree (λ env. refl) now write fits
