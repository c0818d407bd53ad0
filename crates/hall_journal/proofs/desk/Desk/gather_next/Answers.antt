use Rattle.std.proofs.Common.{ℕ, List, [], ◌∷◌, ◌++◌, Vec, Global, sym, subst}
use Rattle.hall_journal.specs.Gathering.{Gathers}
use Rattle.hall_journal.proofs.Gathered.{gathers-one, early-less}
use Rattle.hall_journal.proofs.desk.Desk.gather_next.Goals as goal

pub invariant_of-self-in-Ok : goal.invariant_of-self-in-Ok
invariant_of-self-in-Ok g c =
    let desk = c.self.inside in
    let was = c.self.invariant in
    let entry = c.in-Some-remove.entry in
    let at = was.2 desk.next entry (sym c.in-Some-remove.ensures.value) in
    let more = gathers-one desk.seat.seen desk.begun desk.next desk.gathered.items entry was.1 at in (
      was.0,
      subst (λ (es : List (Vec ℕ Global)). Gathers desk.seat.seen desk.begun es c.in-Some.after) (sym c.in-Ok.ensures.items) (subst (λ (n : ℕ). Gathers desk.seat.seen desk.begun (desk.gathered.items ++ entry ∷ []) n) (sym c.in-Some.ensures.1) more),
      early-less desk.seat.seen desk.early c.remove.new.self desk.next c.in-Some-remove.ensures.updates.0 was.2,
      was.3,
    )
