use Rattle.std.proofs.Common.{List, ℕ, Option, option_map, refl}
use Rattle.std.specs.Borrow.{Bor}
use Rattle.arena_snapshot.specs.Working.Change.{entries_of}
use Rattle.listeners.specs.declared.reach.Reach.{Reach}
use Rattle.listeners.proofs.Reaching.{of_bounds}
use Rattle.listeners.proofs.reach.Reach.of_bounds.Goals as goal

abbrev key_in : Option (Bor (List ℕ)) → Option (List ℕ)
key_in = option_map (λ (key : Bor (List ℕ)). key.now)

pub returns : goal.returns
returns c =
    let reach : Reach = record { digits = c.of_view-digits.result; from = c.max.result; texts_to = c.min.result; to = c.equal_of-equal.result.to } in
    of_bounds (entries_of c.args.view.now) (key_in c.args.start_at) (key_in c.args.end_at) (key_in c.args.equal_to) reach c.start_of-start.result c.end_of-end.result c.equal_of-equal.result
    c.of_view-digits.ensures c.start_of-start.ensures c.end_of-end.ensures c.equal_of-equal.ensures c.max.ensures c.min.ensures refl
