use Rattle.std.proofs.Common.{◌+◌, ◌-◌, ◌≤◌, ◌≡◌, length, drop}
use Rattle.hall_journal.specs.Working.{AreNext, texts}
use Rattle.hall_journal.proofs.volume.Volume.append_all.Given as goal

-- those before this place were stored, and the others come next
abbrev pub invariant-loop-at : goal.invariant-loop-at
invariant-loop-at g l =
    (l.at ≤ length l.entries)
    × (l.volume.seat ≡ l.fn.self.seat) × (l.volume.count ≡ l.fn.self.count + l.at)
    × AreNext l.volume.seat.seen l.volume.count (texts (drop l.at l.entries))

abbrev pub decreases-loop-at : goal.decreases-loop-at
decreases-loop-at g l = length l.entries - l.at
