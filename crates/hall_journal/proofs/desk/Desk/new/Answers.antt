use Rattle.hall_journal.proofs.Gathered.{gathers-none, early-none}
use Rattle.hall_journal.proofs.desk.Desk.new.Goals as goal

pub invariant_of-result : goal.invariant_of-result
invariant_of-result g c = (c.requires.here, gathers-none c.args.seat.seen c.new.result.items c.new.ensures.items, early-none c.args.seat.seen c.new-2.result c.new-2.ensures.empty, c.requires.count)
