use Rattle.std.proofs.Common.{sym, subst}
use Rattle.tree_model.specs.Put.{written}
use Rattle.tree_model.specs.Draft.{IsFixed}
use Rattle.tree_model.specs.Write.{Write, made}
use Rattle.tree_model.proofs.Drafts.{IsFixed-as_draft}
use Rattle.rtdb_model.proofs.Filling.{moment_is_whole}
use Rattle.rtdb_model.proofs.event.Event.fill.Goals as goal

pub fill-requires : goal.fill-requires
fill-requires c = moment_is_whole c.args.now c.requires

pub returns-in-Set-clause-none : goal.returns-in-Set-clause-none
returns-in-Set-clause-none c = subst (λ (w : Write). IsFixed (written w)) (sym c.fill.ensures) (IsFixed-as_draft (written (made c.args.now c.in-Set.write)))
