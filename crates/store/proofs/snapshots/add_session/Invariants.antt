use Rattle.std.proofs.Common.{◌≡◌, ℕ, List, map, take, false}
use Rattle.rtdb_model.specs.State.{State, is_open}
use Rattle.store.specs.Replay.{LeadTo}
use Rattle.store.specs.Snapshots.{with_one}
use Rattle.store.proofs.Snapping.{with_first}
use Rattle.store.proofs.snapshots.add_session.Given as goal

abbrev pub invariant-loop-action : goal.invariant-loop-action
invariant-loop-action l = (text : List ℕ) (state : State) → LeadTo (map (λ entry. entry.items) l.fn.entries.items) text state → is_open state l.number ≡ false
    → LeadTo (map (λ entry. entry.items) l.entries.items) text (with_one state l.number (with_first l.session (take l.action-index l.actions)))
