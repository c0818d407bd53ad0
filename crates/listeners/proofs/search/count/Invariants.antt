use Rattle.std.proofs.Common.{◌-◌, ◌≡◌, true, false, ℕ, ◌<◌, ◌≤◌, length, get_or}
use Rattle.arena_snapshot.specs.Working.Change.{entries_of}
use Rattle.listeners.specs.Selection.{Child}
use Rattle.listeners.specs.Working.Reach.{is_on}
use Rattle.listeners.proofs.search.count.Given as goal

abbrev pub invariant-loop-low : goal.invariant-loop-low
invariant-loop-low l = record {
  order : l.low ≤ l.high;
  within : l.high ≤ length (entries_of l.view);
  before : (i : ℕ) (d : Child) → i < l.low → is_on l.side l.key (get_or (entries_of l.view) i d).0 ≡ true;
  behind : (i : ℕ) (d : Child) → l.high ≤ i → i < length (entries_of l.view) → is_on l.side l.key (get_or (entries_of l.view) i d).0 ≡ false;
}

abbrev pub decreases-loop-low : goal.decreases-loop-low
decreases-loop-low l = l.high - l.low
