use Rattle.std.proofs.Common.{arith}
use Rattle.std.proofs.lemmas.Grind.{common_steps}
use Rattle.json_tree.proofs.Limits.{is_key-utf8}
use Rattle.json_tree.proofs.key.is_lawful_key.Goals as goal

pub returns-then-bytes-le-MAX_KEY_BYTES : goal.returns-then-bytes-le-MAX_KEY_BYTES
returns-then-bytes-le-MAX_KEY_BYTES c = rw (is_key-utf8 c.args.text.now c.utf8.text) (grind (arith, common_steps))

pub returns-else-bytes-le-MAX_KEY_BYTES : goal.returns-else-bytes-le-MAX_KEY_BYTES
returns-else-bytes-le-MAX_KEY_BYTES c = rw (is_key-utf8 c.args.text.now c.utf8.text) (grind (arith, common_steps))
