use Rattle.hall_journal.proofs.Left.{left_is_a_beginning}
use Rattle.hall_journal.proofs.laws.what_a_crash_leaves_is_a_beginning_of_the_history.Goals as goal

pub returns : goal.returns
returns c = left_is_a_beginning
