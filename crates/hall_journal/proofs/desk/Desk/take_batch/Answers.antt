use Rattle.std.proofs.Common.{◌≡◌, ℕ, ◌-◌, List, [], Vec, Global, Option, ap, sym, subst, ◌∙◌}
use Rattle.std.specs.Prelude.{IfSome}
use mathlib.Core.List.{IsPrefix}
use Rattle.locked_server.specs.declared.entry.Entry.{Entry}
use Rattle.locked_server.specs.Known.{Known}
use Rattle.hall_journal.specs.Kept.{OnlyLooks}
use Rattle.hall_journal.specs.Working.{Written, AreNext, texts}
use Rattle.hall_journal.specs.Gathering.{Gathers, AreAtTheirNumbers}
use Rattle.hall_journal.proofs.Growing.{next-more}
use Rattle.hall_journal.proofs.Gathered.{gathers-taken}
use Rattle.hall_journal.proofs.desk.Desk.take_batch.Goals as goal

pub invariant_of-result : goal.invariant_of-result
invariant_of-result g c =
    let desk = c.self.inside in
    let now = c.self.invariant.1.0 in
    let all = c.learn-volume.result.seat.seen in
    let seen : IsPrefix desk.seat.seen all = subst (λ (es : List Entry). IsPrefix es all) c.split-seat.ensures.new.2 c.learn-volume.ensures.seen in
    let next = next-more desk.seat.seen all desk.begun (texts desk.gathered.items) seen now in
    let home : c.in_ok-volume.volume.count ≡ desk.begun = subst (λ (o : Option Written). IfSome o (λ (w : Written). w.count ≡ desk.begun)) (sym c.in_ok-volume.ensures.value) c.self.invariant.3 in
    let count : desk.begun ≡ c.learn-volume.result.count = sym home ∙ sym c.learn-volume.ensures.count in
    subst (λ (n : ℕ). AreNext all n (texts c.replace-entries.result.items)) count
    (subst (λ (es : Vec (Vec ℕ Global) Global). AreNext all desk.begun (texts es.items)) (sym c.replace-entries.ensures.value) next)

pub invariant_of-self-2 : goal.invariant_of-self-2
invariant_of-self-2 g c =
    let desk = c.self.inside in
    let was = c.self.invariant in
    let same = sym c.split-seat.ensures.old in
    let none : c.replace-entries.new.dest.items ≡ [] = ap (λ (entries : Vec (Vec ℕ Global) Global). entries.items) c.replace-entries.ensures.after ∙ c.new.ensures.items in (
      subst (λ (k : Known). OnlyLooks g.B.Origin.began k) same was.0,
      subst (λ (k : Known). Gathers k.seen (desk.next - 1) c.replace-entries.new.dest.items desk.next) same (gathers-taken desk.seat.seen desk.begun desk.next desk.gathered.items c.replace-entries.new.dest.items none was.1),
      subst (λ (k : Known). AreAtTheirNumbers k.seen desk.early) same was.2,
      subst (λ (o : Option Written). IfSome o (λ (w : Written). w.count ≡ desk.next - 1)) (sym c.take.ensures.after) tt,
    )
