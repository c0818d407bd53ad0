use Rattle.std.proofs.Common.{arith}
use Rattle.std.proofs.lemmas.Grind.{common_steps}
use Rattle.json_tree.proofs.Limits.{is_key-utf8}
use Rattle.json_tree.proofs.key.has_length_of_key.Goals as goal

pub returns-then-length-ge1 : goal.returns-then-length-ge1
returns-then-length-ge1 c = let bytes = c.requires in rw (is_key-utf8 c.args.text.now c.utf8.text) (grind (arith, common_steps))

pub returns-else-length-ge1 : goal.returns-else-length-ge1
returns-else-length-ge1 c = let bytes = c.requires in rw (is_key-utf8 c.args.text.now c.utf8.text) (grind (arith, common_steps))
