use Rattle.std.proofs.Common.{refl}
use Rattle.expr_types.specs.Working.SortOf.{sort_of}
use Rattle.expr_types.proofs.Answered.{value_or_refused, not_both, same_refusal}
use Rattle.expr_types.proofs.laws.one_answer.Goals as goal

pub returns-clause-some : goal.returns-clause-some
returns-clause-some c place names x = value_or_refused place names x (sort_of place names x) refl

pub returns-clause-never_both : goal.returns-clause-never_both
returns-clause-never_both c place names x e h r = not_both place names x e h r

pub returns-clause-one : goal.returns-clause-one
returns-clause-one c place names x d e r s = same_refusal place names x d e r s
