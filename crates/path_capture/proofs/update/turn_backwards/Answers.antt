use Rattle.std.proofs.lemmas.List.Sorted.{IsPermutation-trans}
use Rattle.path_capture.proofs.update.turn_backwards.Goals as goal

pub returns : goal.returns
returns c = IsPermutation-trans _ _ _ c.reverse.ensures.permutation c.sort_backwards.ensures
