use Rattle.listeners.specs.Selection.{selection}
use Rattle.listeners.proofs.Bounding.{first_limit, last_limit}
use Rattle.listeners.proofs.laws.a_limit_bounds_the_selection.Goals as goal

pub returns-clause-first : goal.returns-clause-first
unfolding selection
returns-clause-first c = first_limit

pub returns-clause-last : goal.returns-clause-last
unfolding selection
returns-clause-last c = last_limit
