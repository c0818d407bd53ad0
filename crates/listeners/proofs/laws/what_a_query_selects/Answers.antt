use Rattle.listeners.specs.Selection.{selection}
use Rattle.listeners.proofs.Showing.{get-kept, get-other, get-root}
use Rattle.listeners.proofs.laws.what_a_query_selects.Goals as goal

pub returns-clause-kept : goal.returns-clause-kept
unfolding selection
returns-clause-kept c = get-kept

pub returns-clause-others : goal.returns-clause-others
unfolding selection
returns-clause-others c = get-other

pub returns-clause-root : goal.returns-clause-root
unfolding selection
returns-clause-root c = get-root
