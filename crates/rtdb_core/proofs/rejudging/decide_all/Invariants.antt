use Rattle.std.proofs.Common.{◌≡◌, ◌+◌, ◌++◌, true, length, map}
use Rattle.std.specs.List.{AllByRecursion}
use Rattle.rtdb_core.specs.Working.Fates.{fates_of, sparse}
use Rattle.rtdb_core.specs.Working.Passages.{tree_before, tree_after}
use Rattle.rtdb_core.proofs.Staying.{SessionIsHeard}
use Rattle.rtdb_core.proofs.rejudging.decide_all.Given as goal

abbrev pub invariant-loop-session : goal.invariant-loop-session
invariant-loop-session l =
    ((l.decisions.made.items ++ sparse l.decisions.place (fates_of (tree_before l.passage) l.passage.rules.now (tree_after l.passage) l.passage.moment l.session-iterator) ≡ sparse 0 (fates_of (tree_before l.passage) l.passage.rules.now (tree_after l.passage) l.passage.moment (map (λ e. e.1) l.sessions.entries)))
    × (l.decisions.place + length (fates_of (tree_before l.passage) l.passage.rules.now (tree_after l.passage) l.passage.moment l.session-iterator) ≡ length (fates_of (tree_before l.passage) l.passage.rules.now (tree_after l.passage) l.passage.moment (map (λ e. e.1) l.sessions.entries))))
    × (l.passage.was_heard ≡ true → AllByRecursion (SessionIsHeard l.passage.rules.now (tree_before l.passage)) l.session-iterator)
    × (l.moved ≡ (tree_before l.passage, tree_after l.passage))
