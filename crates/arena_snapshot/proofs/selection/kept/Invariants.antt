use Rattle.std.proofs.Common.{◌≡◌, None, map, take}
use Rattle.arena_snapshot.specs.View.{node_or_null}
use Rattle.arena_snapshot.specs.Working.Layer.{IsLayer}
use Rattle.arena_snapshot.specs.Working.Patches.{change_of}
use Rattle.arena_snapshot.proofs.Keeping.{put, at_indices}
use Rattle.arena_snapshot.proofs.selection.kept.Given as goal

abbrev pub invariant-loop-index : goal.invariant-loop-index
invariant-loop-index l = record {
  base : l.layer.base ≡ None;
  layer : IsLayer (node_or_null l.layer.base) l.layer.patches.items l.layer.sizes;
  laid : map change_of l.layer.patches.items ≡ map put (at_indices l.view (take l.index-index l.indices));
}
