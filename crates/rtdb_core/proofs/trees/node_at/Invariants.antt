use Rattle.std.proofs.Common.{◌≡◌, take, Some}
use Rattle.tree_model.specs.PathMap.{sub}
use Rattle.tree_model.specs.Tree.{non_null}
use Rattle.rtdb_core.proofs.trees.node_at.Given as goal

abbrev pub invariant-loop-key : goal.invariant-loop-key
invariant-loop-key l = Some l.node ≡ non_null (sub l.root (take l.key-index l.path))
