use Rattle.store.proofs.Crashes.{crash_left}
use Rattle.store.proofs.laws.a_crash_leaves_a_beginning_of_the_history.Goals as goal

pub returns : goal.returns
returns c = crash_left
