use Rattle.explainer.proofs.Errors.{errs}
use Rattle.explainer.proofs.laws.an_error_that_is_looked_at_is_one_of_the_whole.Goals as goal

pub returns : goal.returns
returns c x env = errs 0 x env
