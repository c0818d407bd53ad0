use Rattle.std.proofs.Common.{◌≡◌, ◌++◌, drop, map}
use Rattle.arena_snapshot.specs.View.{node_or_null}
use Rattle.rtdb_model.specs.Step.{news_of}
use Rattle.rtdb_model.specs.Tidings.{notice_of}
use Rattle.rtdb_core.specs.Working.Fates.{settled}
use Rattle.rtdb_core.proofs.telling.tidings_of.Given as goal

abbrev pub invariant-loop-index : goal.invariant-loop-index
invariant-loop-index l = record {
  news : map notice_of l.tidings.items ++ news_of (node_or_null l.tree) (settled l.docket.place l.docket.decisions.now (drop l.index l.listeners)) ≡ news_of (node_or_null l.tree) (settled 0 l.decisions l.listeners);
  tree : l.selections ≡ node_or_null l.tree;
}
