use Rattle.std.proofs.Common.{arith}
use Rattle.std.proofs.lemmas.Grind.{common_steps}
use Rattle.json_tree.proofs.Limits.{is_text-utf8}
use Rattle.entries.proofs.identity.is_lawful_text.Goals as goal

pub returns : goal.returns
returns c = rw (is_text-utf8 c.args.text.now c.utf8.text) (grind (arith, common_steps))
