use Rattle.std.proofs.Common.{◌≡◌, ◌≤◌, None, arith, rules, lit<, length}
use Rattle.std.proofs.lemmas.Grind.{common_steps}
use Rattle.std.proofs.lemmas.List.{length_push}
use Rattle.std.proofs.lemmas.Iterator.Splits.{YieldsList-from_str_split}
use Rattle.std.proofs.lemmas.Iterator.Consumers.{YieldsList-turn, YieldsList-end}
use Rattle.tree_model.specs.declared.limits.TheConstants.{MAX_DEPTH}
use Rattle.evaluator.specs.Working.Places.{stepped}
use Rattle.evaluator.proofs.Pieces.{Walked-more, Walked-stops, Walked-all}
use Rattle.evaluator.proofs.snapshot.at_keys.Goals as goal

pub returns-in_err-at-2 : goal.returns-in_err-at-2
returns-in_err-at-2 c =
    let at = YieldsList-turn (YieldsList-from_str_split 47 c.args.text.now (lit< tt) (cc) (cc) (cc)) c.loop-piece.yielded _ c.loop-piece.yielded_by _ _ c.in-Some.piece c.in-Some.is c.next.ensures.steps in
    let room : length c.args.place.now.1 ≤ MAX_DEPTH = omega arith in
    grind (arith, common_steps, λ (e : stepped c.loop-piece.at.now c.in-Some.piece.now ≡ None). Walked-stops c.args.place.now c.loop-piece.at.now c.args.text.now _ c.in-Some.piece.now room at e c.loop-piece.invariant)

pub loop-piece-preserved : goal.loop-piece-preserved
loop-piece-preserved c =
    let at = YieldsList-turn (YieldsList-from_str_split 47 c.args.text.now (lit< tt) (cc) (cc) (cc)) c.loop-piece.yielded _ c.loop-piece.yielded_by _ _ c.in-Some.piece c.in-Some.is c.next.ensures.steps in
    rw length_push (Walked-more _ _ _ _ _ _ at c.in_ok-at-2.ensures.value c.loop-piece.invariant)

pub returns : goal.returns
returns c =
    let end = YieldsList-end (YieldsList-from_str_split 47 c.args.text.now (lit< tt) (cc) (cc) (cc)) c.loop-piece.yielded _ c.loop-piece.yielded_by _ _ c.in-None.is c.next.ensures.steps in
    let room : length c.args.place.now.1 ≤ MAX_DEPTH = omega arith in
    search (rules, Walked-all c.args.place.now c.loop-piece.at.now c.args.text.now _ room end.1 c.loop-piece.invariant)
