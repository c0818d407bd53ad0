use Rattle.std.proofs.Common.{◌≡◌, ◌≤◌, false}
use Rattle.std.specs.List.{AllWithin}
use Rattle.tree_model.specs.Path.{is_prefix}
use Rattle.tree_model.specs.Put.{location}
use Rattle.rtdb_core.proofs.children.reach_few_children.Given as goal

abbrev pub invariant-loop-write : goal.invariant-loop-write
invariant-loop-write l = record {
  few : l.below ≤ 8;
  above : AllWithin (λ w. is_prefix (location w) l.path ≡ false) l.writes 0 l.write-index;
}
