use Rattle.std.proofs.Common.{sym}
use Rattle.json_tree.proofs.Proposing.{removed-null}
use Rattle.json_tree.proofs.puts.remove_from.Goals as goal

pub returns-in-None : goal.returns-in-None
returns-in-None c = rw c.in-None.is (sym (removed-null c.args.path.now))
