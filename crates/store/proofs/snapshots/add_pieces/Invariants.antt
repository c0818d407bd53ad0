use Rattle.std.proofs.Common.{ℕ, ◌-◌, ◌≤◌, List, [], map, length, take}
use Rattle.store.specs.Replay.{empty, reading, Replays}
use Rattle.store.proofs.snapshots.add_pieces.Given as goal

abbrev pub invariant-loop-at : goal.invariant-loop-at
invariant-loop-at l =
    (l.at ≤ length l.text)
    × ((rules : List ℕ) → Replays (map (λ entry. entry.items) l.fn.entries.items) empty (reading rules [])
    → Replays (map (λ entry. entry.items) l.entries.items) empty (reading rules (take l.at l.text)))

abbrev pub decreases-loop-at : goal.decreases-loop-at
decreases-loop-at l = length l.text - l.at
