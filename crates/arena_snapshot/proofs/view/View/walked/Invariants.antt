use Rattle.std.proofs.Common.{◌≡◌, take}
use Rattle.tree_model.specs.PathMap.{sub}
use Rattle.arena_snapshot.proofs.view.View.walked.Given as goal

abbrev pub invariant-loop-key : goal.invariant-loop-key
invariant-loop-key l = l.view ≡ sub l.self (take l.key-index l.keys)
