use Rattle.expr_types.proofs.Naming.{unknown_named, excluded_named}
use Rattle.expr_types.proofs.laws.a_named_fault_stands_in_the_expression.Goals as goal

pub returns-clause-unknown : goal.returns-clause-unknown
returns-clause-unknown c place names x f d = unknown_named place names x f d

pub returns-clause-excluded : goal.returns-clause-excluded
returns-clause-excluded c place names x f d = excluded_named place names x f d
