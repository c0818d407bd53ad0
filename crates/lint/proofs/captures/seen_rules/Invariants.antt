use Rattle.lint.specs.Working.{AreSeen}
use Rattle.lint.proofs.captures.seen_rules.Given as goal

abbrev pub invariant-loop-index : goal.invariant-loop-index
invariant-loop-index l = AreSeen l.root.book l.all.items
