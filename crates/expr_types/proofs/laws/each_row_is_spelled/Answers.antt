use Rattle.expr_types.proofs.RowNames.{member_spelled, call_spelled}
use Rattle.expr_types.proofs.laws.each_row_is_spelled.Goals as goal

pub returns-clause-member : goal.returns-clause-member
returns-clause-member c place names x f s d = member_spelled d

pub returns-clause-call : goal.returns-clause-call
returns-clause-call c place names x f xs s d = call_spelled d
