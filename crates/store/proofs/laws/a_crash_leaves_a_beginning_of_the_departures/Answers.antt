use Rattle.store.proofs.Unfinished.{begun_departures}
use Rattle.store.proofs.laws.a_crash_leaves_a_beginning_of_the_departures.Goals as goal

pub returns : goal.returns
returns c = begun_departures
