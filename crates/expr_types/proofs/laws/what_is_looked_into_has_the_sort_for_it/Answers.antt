use Rattle.expr_types.proofs.Looking.{member_into, call_into}
use Rattle.expr_types.proofs.laws.what_is_looked_into_has_the_sort_for_it.Goals as goal

pub returns-clause-member : goal.returns-clause-member
returns-clause-member c place names x f s d = member_into d

pub returns-clause-call : goal.returns-clause-call
returns-clause-call c place names x f xs s d = call_into d
