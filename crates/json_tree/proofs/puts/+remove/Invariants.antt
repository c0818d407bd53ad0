use Rattle.std.proofs.Common.{◌+◌, ◌*◌, length}
use Rattle.json_tree.proofs.puts.+remove.Given as goal

abbrev pub decreases-remove : goal.decreases-remove
decreases-remove l = 2 * length l.path.now

abbrev pub decreases-remove_below : goal.decreases-remove_below
decreases-remove_below l = 2 * length l.rest.now + 1
