use Rattle.expr_types.proofs.Wider.{kept}
use Rattle.expr_types.proofs.laws.more_captures_change_no_sort.Goals as goal

pub returns : goal.returns
returns c place names more x s k d = kept names more k d
