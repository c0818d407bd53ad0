use Rattle.tree_model.specs.Put.{written}
use Rattle.arena_snapshot.proofs.Lefts.{puts_some, puts_none}
use Rattle.arena_snapshot.proofs.proposal.puts_tree.Goals as goal

pub returns-in-Some : goal.returns-in-Some
returns-in-Some c = puts_some (written c.args.write.now) c.in-Some.field-0.now c.in-Some.ensures

pub returns-in-None : goal.returns-in-None
returns-in-None c = puts_none (written c.args.write.now) c.in-None.ensures
