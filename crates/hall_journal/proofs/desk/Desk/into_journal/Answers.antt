use Rattle.std.proofs.Common.{◌∙◌}
use Rattle.hall_journal.proofs.Growing.{sees-met, sees-on}
use Rattle.hall_journal.proofs.desk.Desk.into_journal.Goals as goal

pub returns-in-Some-clause-same : goal.returns-in-Some-clause-same
returns-in-Some-clause-same g c =
    let first = sees-met g.B.Origin.began c.args.seat.now c.self.inside.seat c.meet.new.seat c.self.invariant.0 c.meet.ensures.met in
    (c.into_journal.ensures.same.0, sees-on c.args.seat.now c.meet.new.seat c.into_journal.new.seat first c.into_journal.ensures.same.1)

pub returns-in-None-clause-same : goal.returns-in-None-clause-same
returns-in-None-clause-same g c =
    ((c.meet.ensures.same.0 ∙ c.requires.seat.0, c.meet.ensures.same.1 ∙ c.requires.seat.1), sees-met g.B.Origin.began c.args.seat.now c.self.inside.seat c.meet.new.seat c.self.invariant.0 c.meet.ensures.met)
