use Rattle.std.proofs.Common.{length}
use Rattle.json_tree.proofs.puts.+chain.Given as goal

abbrev pub decreases-chain : goal.decreases-chain
decreases-chain l = length l.path.now
