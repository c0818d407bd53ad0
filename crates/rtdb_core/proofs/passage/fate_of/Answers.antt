use Rattle.arena_snapshot.proofs.Tests.{from_true}
use Rattle.listeners.specs.Listener.{seen}
use Rattle.rtdb_core.specs.Working.Passages.{tree_before, tree_after, who_of}
use Rattle.rtdb_core.proofs.Staying.{fate_stays}
use Rattle.rtdb_core.proofs.passage.fate_of.Goals as goal

pub returns-then-stays-clause-fate : goal.returns-then-stays-clause-fate
returns-then-stays-clause-fate c =
    let p = c.args.passage.now in
    fate_stays p.rules.now (tree_before p) (tree_after p) p.moment (who_of c.args.who) (seen c.args.listener.now) c.if-not-listener.false (c.requires.heard (from_true _ _ c.stays.ensures.heard c.if-stays.true)) (from_true _ _ c.stays.ensures.same c.if-stays.true)
