use Rattle.std.proofs.Common.{◌+◌, ◌*◌, length}
use Rattle.json_tree.proofs.puts.+insert.Given as goal

abbrev pub decreases-insert : goal.decreases-insert
decreases-insert l = 2 * length l.path.now

abbrev pub decreases-insert_below : goal.decreases-insert_below
decreases-insert_below l = 2 * length l.rest.now + 1
