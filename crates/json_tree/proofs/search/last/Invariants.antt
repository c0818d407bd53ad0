use Rattle.std.proofs.Common.{◌-◌, ◌+◌, ◌<◌, ◌≤◌, length}
use Rattle.json_tree.specs.Working.Search.{AreBefore}
use Rattle.json_tree.proofs.search.last.Given as goal

-- a child is left, and all before those that are left stand before the text
abbrev pub invariant-halving : goal.invariant-halving
invariant-halving l = record {
  some : 0 < l.span.count;
  within : l.span.start + l.span.count ≤ length l.children;
  before : AreBefore l.sought l.span.start l.children;
}

abbrev pub decreases-halving : goal.decreases-halving
decreases-halving l = l.span.count - 1
