use Rattle.evaluator.proofs.Inside.{contains_is}
use Rattle.evaluator.proofs.laws.what_a_text_contains.Goals as goal

pub returns : goal.returns
returns c text part = contains_is text part
