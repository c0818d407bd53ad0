use Rattle.std.proofs.Common.{List, ℕ, option_map, ap, sym, subst, refl}
use Rattle.std.specs.Borrow.{Bor}
use Rattle.arena_snapshot.specs.Working.Change.{entries_of}
use Rattle.listeners.specs.declared.reach.Span.{Span}
use Rattle.listeners.specs.Working.Reach.{IsEqual}
use Rattle.listeners.proofs.Reaching.{equal_none, equal_some}
use Rattle.listeners.proofs.reach.equal_of.Goals as goal

pub returns-in-Some : goal.returns-in-Some
returns-in-Some c =
    let span : Span = record { from = c.count.result; to = c.count-in-Some.result } in
    subst (λ bound. IsEqual (entries_of c.args.view.now) bound span) (ap (option_map (λ (key : Bor (List ℕ)). key.now)) (sym c.in-Some.is)) (equal_some (entries_of c.args.view.now) c.in-Some.key.now span c.count.ensures c.count-in-Some.ensures)

pub returns-in-None : goal.returns-in-None
returns-in-None c =
    let span : Span = record { from = 0; to = c.width.result } in
    subst (λ bound. IsEqual (entries_of c.args.view.now) bound span) (ap (option_map (λ (key : Bor (List ℕ)). key.now)) (sym c.in-None.is)) (equal_none c.args.view.now span refl c.width.ensures)
