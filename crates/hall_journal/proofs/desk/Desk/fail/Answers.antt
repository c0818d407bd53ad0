use Rattle.hall_journal.proofs.Growing.{looks-met}
use Rattle.hall_journal.proofs.Gathered.{gathers-more, early-more}
use Rattle.hall_journal.proofs.desk.Desk.fail.Goals as goal

pub invariant_of-self : goal.invariant_of-self
invariant_of-self g c =
    let desk = c.self.inside in
    let was = c.self.invariant in
    let met = c.meet.ensures.met in (
      looks-met g.B.Origin.began desk.seat c.args.seat c.meet.new.seat was.0 c.requires.seat.1 c.meet.ensures.same.0 c.meet.ensures.same.1 met,
      gathers-more desk.seat.seen c.meet.new.seat.seen desk.begun desk.next desk.gathered.items met.0 was.1,
      early-more desk.seat.seen c.meet.new.seat.seen desk.early met.0 was.2,
      was.3,
    )
