use Rattle.std.proofs.Common.{ℕ, List, [], refl, ◌∙◌, subst}
use Rattle.journal.specs.Format.{Group}
use Rattle.journal.specs.Keeping.{disk_of, chain_of}
use Rattle.hall_journal.specs.Kept.{IsAt}
use Rattle.locked_server.specs.History.{changed_in}
use Rattle.journal.specs.Recovery.{Survives}
use Rattle.disk.specs.Disk.{AtAnyMoment}
use Rattle.hall_journal.proofs.Appending.{begun}
use Rattle.hall_journal.proofs.hall_journal.HallJournal.new.Goals as goal

pub invariant_of-volume : goal.invariant_of-volume
invariant_of-volume g c =
    let disk = g.D.Disk in
    let began = g.B.Origin.began in
    let new = c.split.ensures.new in
    let here : IsAt began c.split.result = (new.0 ∙ c.requires.hall, new.1 ∙ c.requires.seat.1) in
    let identified = c.in-Ok.ensures.identifier ∙ c.requires.identifier in (
      (here, new.3),
      λ (had : List Group) begins. let file = c.requires.file had begins in record {
        changed = [];
        later = changed_in c.split.result.seen;
        here = here;
        seen = refl;
        count_is = refl;
        keeps = begun disk.holds disk.may_leave disk.moment disk.left_since began had (disk_of c.args.journal) (disk_of c.sync.new.self) (chain_of c.sync.new.self) identified c.requires.moment (c.in-Ok.ensures.stored had had file)
            (subst (λ (i : List ℕ). AtAnyMoment disk.moment disk.left_since (disk_of c.args.journal) (disk_of c.sync.new.self) (Survives i had had)) c.requires.identifier (c.in-Ok.ensures.any_moment had had file));
      },
    )
