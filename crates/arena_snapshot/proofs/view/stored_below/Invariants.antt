use Rattle.std.proofs.Common.{◌≡◌, take}
use Rattle.tree_model.specs.PathMap.{sub}
use Rattle.arena_snapshot.proofs.view.stored_below.Given as goal

abbrev pub invariant-loop-key : goal.invariant-loop-key
invariant-loop-key l = l.at ≡ sub l.node (take l.key-index l.keys)
