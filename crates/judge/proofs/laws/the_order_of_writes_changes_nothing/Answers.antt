use Rattle.judge.proofs.Tops.{verdict_in_any_order}
use Rattle.judge.proofs.laws.the_order_of_writes_changes_nothing.Goals as goal

pub returns : goal.returns
returns c = verdict_in_any_order
