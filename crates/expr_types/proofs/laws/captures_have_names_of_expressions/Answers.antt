use Rattle.expr_types.proofs.Spelled.{same_names}
use Rattle.expr_types.proofs.laws.captures_have_names_of_expressions.Goals as goal

pub returns : goal.returns
returns c text = same_names text
