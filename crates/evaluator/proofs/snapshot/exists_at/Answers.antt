use Rattle.std.proofs.Common.{◌∙◌}
use Rattle.evaluator.proofs.Snapshots.{exists_is}
use Rattle.evaluator.proofs.snapshot.exists_at.Goals as goal

pub returns : goal.returns
returns c = c.is_some.ensures ∙ exists_is _ c.args.place.now c.view.ensures
