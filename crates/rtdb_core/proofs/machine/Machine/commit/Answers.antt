use Rattle.std.proofs.Common.{◌<◌, sym, subst, arith}
use Rattle.tree_model.specs.Put.{written}
use Rattle.tree_model.specs.Draft.{IsFixed}
use Rattle.tree_model.specs.Write.{Write}
use Rattle.tree_model.proofs.Writes.{IsFixed-null_draft}
use Rattle.rtdb_model.specs.declared.event.Event.{Event}
use Rattle.rtdb_core.specs.Working.Plans.{MayBeDone}
use Rattle.rtdb_core.proofs.machine.Machine.commit.Goals as goal

pub make-requires-clause-fixed : goal.make-requires-clause-fixed
make-requires-clause-fixed c =
    let may = subst (λ (e : Event). MayBeDone c.args.self.now c.args.session e c.args.run) c.in-Set.is c.requires in
    may.0.fixed 0 c.in-Set.write (omega arith)

pub make-requires-in-Remove-clause-fixed : goal.make-requires-in-Remove-clause-fixed
make-requires-in-Remove-clause-fixed c = subst (λ (w : Write). IsFixed (written w)) (sym c.into_write.ensures) IsFixed-null_draft
