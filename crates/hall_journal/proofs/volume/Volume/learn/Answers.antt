use Rattle.std.proofs.Common.{List}
use Rattle.journal.specs.Format.{Group}
use Rattle.journal.specs.Keeping.{disk_of, chain_of}
use Rattle.hall_journal.proofs.Growing.{keeps-more, looks-met}
use Rattle.hall_journal.proofs.volume.Volume.learn.Goals as goal

pub invariant_of-result : goal.invariant_of-result
invariant_of-result g c =
    let disk = g.D.Disk in
    let met = c.meet.ensures.met in
    let looks = looks-met g.B.Origin.began c.self.inside.seat c.args.other c.meet.new.seat c.self.invariant.0 c.requires.other.1 c.meet.ensures.same.0 c.meet.ensures.same.1 met in
    (looks, λ (had : List Group) begins. keeps-more disk.holds disk.may_leave disk.moment disk.left_since g.B.Origin.began had (disk_of c.self.inside.journal) (chain_of c.self.inside.journal) c.self.inside.seat c.meet.new.seat c.self.inside.count looks.0 met.0 (c.self.invariant.1 had begins))
