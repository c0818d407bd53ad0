use Rattle.std.proofs.Common.{◌∙◌, ◌++◌, List, map, arith, sym, ap, append-nil, refl}
use Rattle.listeners.specs.Listener.{seen}
use Rattle.listeners.specs.Table.{Listener}
use Rattle.rtdb_core.specs.Working.Fates.{fate_of, sparse}
use Rattle.rtdb_core.specs.Working.Passages.{tree_before, tree_after, who_of}
use Rattle.rtdb_core.proofs.Collecting.{one_more, all_of}
use Rattle.rtdb_core.proofs.Staying.{heard_at}
use Rattle.rtdb_core.proofs.rejudging.decide_some.Goals as goal

pub loop-index-init : goal.loop-index-init
loop-index-init c = ((omega arith, sym (append-nil c.args.decisions.now.made.items)), refl)

pub loop-index-preserved : goal.loop-index-preserved
loop-index-preserved c =
    let p = c.args.passage.now in
    (one_more (fate_of (tree_before p) p.rules.now (tree_after p) p.moment (who_of c.args.who)) c.args.listeners.now c.loop-index.index c.args.decisions.now.place c.loop-index.decisions.place c.push.new.self.place c.args.decisions.now.made.items c.loop-index.decisions.made.items c.push.new.self.made.items c.in_ok-fate.fate (seen c.entry.result) c.loop-index.invariant.0 (c.entry.ensures, c.in_ok-fate.ensures.fate, omega (arith, c.loop-index-test.true, c.len-index-end.ensures)) c.in_ok-push.ensures.place c.in_ok-push.ensures.made, c.fate_of.ensures.moved ∙ c.loop-index.invariant.1)

pub fate_of-requires-clause-heard : goal.fate_of-requires-clause-heard
fate_of-requires-clause-heard c was =
    let p = c.args.passage.now in
    heard_at p.rules.now (tree_before p) (who_of c.args.who) c.args.listeners.now c.loop-index.index (seen c.entry.result) (c.requires.heard was) c.entry.ensures

pub returns-clause-place : goal.returns-clause-place
returns-clause-place c = omega (arith, c.loop-index.invariant.0.0, c.loop-index-test.false, c.loop-index.auto.index-end, c.len-index-end.ensures)

pub returns-clause-made : goal.returns-clause-made
returns-clause-made c =
    let p = c.args.passage.now in
    let f = fate_of (tree_before p) p.rules.now (tree_after p) p.moment (who_of c.args.who) in
    c.loop-index.invariant.0.1 ∙ ap (λ (ls : List Listener). c.args.decisions.now.made.items ++ sparse c.args.decisions.now.place (map f ls)) (all_of c.args.listeners.now c.loop-index.index (omega (arith, c.loop-index-test.false, c.len-index-end.ensures)))
