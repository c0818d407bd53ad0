use Rattle.path_capture.specs.Captures.{names}
use Rattle.evaluator.proofs.Sorted.{all_there, checked_sorted}
use Rattle.evaluator.proofs.laws.all_parts_of_what_is_checked_have_sorts.Goals as goal

pub returns : goal.returns
returns c checked env x d suits inside = all_there checked.place (names env.captures) x inside (checked_sorted checked env d suits)
