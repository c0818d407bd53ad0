use Rattle.expr_tokens.proofs.Whole.{one_earliest, spelled_no_fault}
use Rattle.expr_tokens.proofs.scanner.one_fault.Goals as goal

pub returns-clause-one : goal.returns-clause-one
returns-clause-one c = one_earliest

pub returns-clause-none : goal.returns-clause-none
returns-clause-none c = spelled_no_fault
