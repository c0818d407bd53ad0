use Rattle.std.proofs.Common.{List, ◌∙◌}
use Rattle.journal.specs.Format.{Group}
use Rattle.journal.specs.Keeping.{disk_of, chain_of}
use Rattle.hall_journal.proofs.Growing.{keeps-more, sees-met}
use Rattle.hall_journal.proofs.volume.Volume.into_journal.Goals as goal

pub returns-then-look_behind-count-clause-same : goal.returns-then-look_behind-count-clause-same
returns-then-look_behind-count-clause-same g c =
    ((c.meet.ensures.same.0 ∙ c.requires.seat.0, c.meet.ensures.same.1 ∙ c.requires.seat.1), sees-met g.B.Origin.began c.args.seat.now c.self.inside.seat c.meet.new.seat c.self.invariant.0 c.meet.ensures.met)

pub returns-clause-same : goal.returns-clause-same
returns-clause-same g c =
    ((c.meet.ensures.same.0 ∙ c.requires.seat.0, c.meet.ensures.same.1 ∙ c.requires.seat.1), sees-met g.B.Origin.began c.args.seat.now c.self.inside.seat c.meet.new.seat c.self.invariant.0 c.meet.ensures.met)

pub returns-clause-kept : goal.returns-clause-kept
returns-clause-kept g c =
    let disk = g.D.Disk in
    λ (had : List Group) begins. keeps-more disk.holds disk.may_leave disk.moment disk.left_since g.B.Origin.began had (disk_of c.self.inside.journal) (chain_of c.self.inside.journal) c.self.inside.seat c.meet.new.seat c.self.inside.count
    (c.meet.ensures.same.0 ∙ c.requires.seat.0, c.meet.ensures.same.1 ∙ c.requires.seat.1) c.meet.ensures.met.1 (c.self.invariant.1 had begins)
