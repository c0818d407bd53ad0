use Rattle.std.proofs.Common.{◌≡◌, false, drop, length}
use Rattle.tree_model.specs.Put.{overlaps}
use Rattle.tree_model.specs.Write.{proposed}
use Rattle.path_capture.specs.Write.{tree_or_null}
use Rattle.path_capture.proofs.update.make_removals.Given as goal

-- what is left leads to the same tree as all did
abbrev pub invariant-loop-write : goal.invariant-loop-write
invariant-loop-write l = record {
  apart : overlaps (drop (length l.yielded) l.fn.removals.items) ≡ false;
  same : proposed (tree_or_null l.tree) (drop (length l.yielded) l.fn.removals.items) 0 ≡ proposed (tree_or_null l.initial.tree) l.fn.removals.items 0;
}
