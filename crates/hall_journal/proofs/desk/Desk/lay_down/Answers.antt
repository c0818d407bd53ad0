use Rattle.hall_journal.proofs.Growing.{looks-met, at-more}
use Rattle.hall_journal.proofs.Gathered.{gathers-more, early-more, early-one, early-same}
use Rattle.hall_journal.proofs.desk.Desk.lay_down.Goals as goal

pub invariant_of-self : goal.invariant_of-self
invariant_of-self g c =
    let desk = c.self.inside in
    let was = c.self.invariant in
    let met = c.meet.ensures.met in
    let all = c.meet.new.seat.seen in (
      looks-met g.B.Origin.began desk.seat c.args.other c.meet.new.seat was.0 c.requires.other.1 c.meet.ensures.same.0 c.meet.ensures.same.1 met,
      gathers-more desk.seat.seen all desk.begun desk.next desk.gathered.items met.0 was.1,
      early-one all desk.early c.insert.new.self c.args.number c.args.entry c.in-Ok.ensures.updates.0 (at-more c.args.other.seen all c.args.number c.args.entry.items met.1 c.requires.entry) (early-more desk.seat.seen all desk.early met.0 was.2),
      was.3,
    )

pub invariant_of-self-in-Err : goal.invariant_of-self-in-Err
invariant_of-self-in-Err g c =
    let desk = c.self.inside in
    let was = c.self.invariant in
    let met = c.meet.ensures.met in
    let all = c.meet.new.seat.seen in (
      looks-met g.B.Origin.began desk.seat c.args.other c.meet.new.seat was.0 c.requires.other.1 c.meet.ensures.same.0 c.meet.ensures.same.1 met,
      gathers-more desk.seat.seen all desk.begun desk.next desk.gathered.items met.0 was.1,
      early-same all desk.early c.insert.new.self c.in-Err.ensures.err (early-more desk.seat.seen all desk.early met.0 was.2),
      was.3,
    )
