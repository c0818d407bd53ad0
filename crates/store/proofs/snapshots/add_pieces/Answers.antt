use Rattle.std.proofs.Common.{ℕ, ◌≤◌, List, map, take, Vec, Global, subst, arith}
use Rattle.store.specs.Replay.{empty, reading, Replays}
use Rattle.store.proofs.Snapping.{piece_put, next_piece}
use Rattle.store.proofs.snapshots.add_pieces.Goals as goal

pub loop-at-preserved : goal.loop-at-preserved
loop-at-preserved c =
    let at = c.loop-at.at in
    let end = c.min-end.result in
    let text = c.args.text.now in
    let later : at ≤ end = omega arith in (
      omega arith,
      λ (rules : List ℕ) before.
          subst (λ (json : List ℕ). Replays (map (λ entry. entry.items) c.push.new.self.items) empty (reading rules json)) (next_piece text at end later)
          (piece_put (λ (entry : Vec ℕ Global). entry.items) c.loop-at.entries.items c.push.new.self.items c.in_ok-tree_entry.field-0 c.in_ok-push.ensures.items rules (take at text) _ (c.loop-at.invariant.1 rules before) c.in_ok-tree_entry.ensures),
    )
