use Rattle.std.proofs.Common.{◌≡◌, ◌+◌, ◌++◌, map, take}
use Rattle.rtdb_core.specs.Working.Fates.{fate_of, sparse}
use Rattle.rtdb_core.specs.Working.Passages.{tree_before, tree_after, who_of}
use Rattle.rtdb_core.proofs.rejudging.decide_some.Given as goal

abbrev pub invariant-loop-index : goal.invariant-loop-index
invariant-loop-index l =
    ((l.decisions.place ≡ l.fn.decisions.place + l.index)
    × (l.decisions.made.items ≡ l.fn.decisions.made.items ++ sparse l.fn.decisions.place (map (fate_of (tree_before l.passage) l.passage.rules.now (tree_after l.passage) l.passage.moment (who_of l.who)) (take l.index l.listeners))))
    × (l.moved ≡ l.fn.moved)
