use Rattle.std.proofs.Common.{take}
use Rattle.rules_reader.proofs.Reached.{Reached}
use Rattle.rules_reader.proofs.rules.node_at.Given as goal

abbrev pub invariant-loop-key : goal.invariant-loop-key
invariant-loop-key l = Reached l.root.book l.node (take l.key-index l.path)
