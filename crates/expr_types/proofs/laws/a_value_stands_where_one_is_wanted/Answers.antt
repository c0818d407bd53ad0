use Rattle.expr_types.proofs.Looking.{wanted, wanted_sort}
use Rattle.expr_types.proofs.laws.a_value_stands_where_one_is_wanted.Goals as goal

pub returns-clause-value : goal.returns-clause-value
returns-clause-value c place names x part s d at = wanted d at

pub returns-clause-no_snapshot : goal.returns-clause-no_snapshot
returns-clause-no_snapshot c place names x part s d at is = let e = wanted_sort d at is in cc

pub returns-clause-no_query : goal.returns-clause-no_query
returns-clause-no_query c place names x part s d at is = let e = wanted_sort d at is in cc
