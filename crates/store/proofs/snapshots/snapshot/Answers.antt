use Rattle.std.proofs.Common.{◌≡◌, ℕ, ◌∷◌, map, Vec, Global, rules}
use Rattle.store.proofs.Snapping.{one_put_back}
use Rattle.store.proofs.snapshots.snapshot.Goals as goal

pub loop-number-preserved : goal.loop-number-preserved
loop-number-preserved c =
    let first : c.loop-number.number-iterator ≡ (c.in-Some.number.now, c.in-Some.session.now) ∷ c.next.new.self = search rules in
    one_put_back (map (λ (entry : Vec ℕ Global). entry.items) c.loop-number.entries.items) (map (λ (entry : Vec ℕ Global). entry.items) c.add_session.new.entries.items) c.args.rules.now c.args.core.now c.in-Some.number.now c.in-Some.session.now c.loop-number.number-iterator c.next.new.self first c.loop-number.invariant c.in_ok-add_session.ensures
