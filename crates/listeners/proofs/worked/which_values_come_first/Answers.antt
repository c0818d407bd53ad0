-- Computed.
use Rattle.std.proofs.Common.{refl}
use Rattle.listeners.specs.Order.{place_cmp}
use Rattle.listeners.proofs.worked.which_values_come_first.Goals as goal

pub returns-clause-nothing_first : goal.returns-clause-nothing_first
unfolding place_cmp
returns-clause-nothing_first c = refl

pub returns-clause-booleans : goal.returns-clause-booleans
unfolding place_cmp
returns-clause-booleans c = refl

pub returns-clause-numbers_behind : goal.returns-clause-numbers_behind
unfolding place_cmp
returns-clause-numbers_behind c = refl

pub returns-clause-numbers : goal.returns-clause-numbers
unfolding place_cmp
returns-clause-numbers c = refl

pub returns-clause-texts_behind : goal.returns-clause-texts_behind
unfolding place_cmp
returns-clause-texts_behind c = refl

pub returns-clause-texts : goal.returns-clause-texts
unfolding place_cmp
returns-clause-texts c = refl

pub returns-clause-locations_behind : goal.returns-clause-locations_behind
unfolding place_cmp
returns-clause-locations_behind c = refl

pub returns-clause-locations : goal.returns-clause-locations
unfolding place_cmp
returns-clause-locations c = refl
