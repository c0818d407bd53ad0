use Rattle.std.proofs.Common.{refl}
use Rattle.listeners.specs.Selection.{selection}
use Rattle.listeners.proofs.laws.no_query_selects_the_whole.Goals as goal

pub returns : goal.returns
unfolding selection
returns c = λ t. refl
