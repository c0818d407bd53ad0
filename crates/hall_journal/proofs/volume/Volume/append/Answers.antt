use Rattle.std.proofs.Common.{◌≡◌, ℕ, ◌+◌, List, ◌++◌, length, Vec, Global, refl, ap, sym, subst, ◌∙◌}
use Rattle.std.proofs.lemmas.List.{length-map}
use Rattle.journal.specs.Format.{Group, file_of}
use Rattle.journal.specs.Keeping.{disk_of, chain_of, identifier_of, group_of}
use Rattle.hall_journal.specs.Kept.{KeepsHistory}
use Rattle.hall_journal.specs.Working.{Written, AreNext, texts}
use Rattle.hall_journal.proofs.Appending.{history-more}
use Rattle.hall_journal.proofs.volume.Volume.append.Goals as goal

pub invariant_of-result : goal.invariant_of-result
invariant_of-result g c =
    let disk = g.D.Disk in
    let began = g.B.Origin.began in
    let journal = c.self.inside.journal in
    let entries = texts c.args.entries.now in
    let next : AreNext c.self.inside.seat.seen c.self.inside.count entries = subst (λ (w : Written). AreNext w.seat.seen w.count entries) (sym c.self.view_is) c.requires.next in
    let more : (had : List Group) → g.B.Origin.begins had → KeepsHistory disk.holds disk.may_leave disk.moment disk.left_since began had (disk_of c.append.new.self) (chain_of c.append.new.self) c.self.inside.seat (c.self.inside.count + length entries) =
    λ had begins.
    let kept = c.self.invariant.1 had begins in
    let all = had ++ kept.keeps.appended in
    let group = group_of (length (file_of (identifier_of journal) all)) c.args.entries.now in
    history-more disk.holds disk.may_leave disk.moment disk.left_since began had (disk_of journal) (disk_of c.append.new.self) (chain_of journal) (chain_of c.append.new.self) c.self.inside.seat c.self.inside.count entries group
    refl next c.in-Ok.ensures.identifier kept (c.in-Ok.ensures.stored all all kept.keeps.keeps) (c.in-Ok.ensures.any_moment all all kept.keeps.keeps) in
    let after : c.self.inside.count + length entries ≡ c.in-Some.after = ap (λ (n : ℕ). c.self.inside.count + n) (length-map c.args.entries.now (λ (e : Vec ℕ Global). e.items)) ∙ sym c.in-Some.ensures.1 in
    (c.self.invariant.0, subst (λ (n : ℕ). (had : List Group) → g.B.Origin.begins had → KeepsHistory disk.holds disk.may_leave disk.moment disk.left_since began had (disk_of c.append.new.self) (chain_of c.append.new.self) c.self.inside.seat n) after more)
