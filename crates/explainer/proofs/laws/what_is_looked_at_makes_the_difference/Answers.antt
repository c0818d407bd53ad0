use Rattle.explainer.proofs.Kept.{not_looked_at}
use Rattle.explainer.proofs.Needed.{errs_if_looked_at}
use Rattle.explainer.proofs.laws.what_is_looked_at_makes_the_difference.Goals as goal

pub returns-clause-left_out : goal.returns-clause-left_out
returns-clause-left_out c old new n x y env s never = not_looked_at old new env s never

pub returns-clause-looked_at : goal.returns-clause-looked_at
returns-clause-looked_at c old new n x y env s h none = errs_if_looked_at old new env none s h
