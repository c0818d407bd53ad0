use Rattle.std.proofs.Common.{◌≡◌, reverse, length}
use Rattle.path_capture.specs.Write.{tree_or_null}
use Rattle.path_capture.specs.Working.Rewind.{rewound, CanRewind}
use Rattle.path_capture.proofs.update.rewind.Given as goal

-- what is left to be undone leads to the same tree
abbrev pub invariant-loop-undo : goal.invariant-loop-undo
invariant-loop-undo l = record {
  can : CanRewind (reverse l.left.items) (tree_or_null l.tree);
  same : rewound (reverse l.left.items) (tree_or_null l.tree) ≡ rewound (reverse l.fn.undos.items) (tree_or_null l.initial.tree);
}

abbrev pub decreases-loop-undo : goal.decreases-loop-undo
decreases-loop-undo l = length l.left.items
