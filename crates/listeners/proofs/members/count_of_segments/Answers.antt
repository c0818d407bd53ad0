use Rattle.std.proofs.Common.{◌≡◌, ◌==◌, true, false, ap, sym, lit<, length, arith, Some, None, cond}
use Rattle.std.proofs.lemmas.Grind.{common_steps}
use Rattle.std.proofs.lemmas.List.{length_push}
use Rattle.std.proofs.lemmas.Iterator.Splits.{YieldsList-from_str_split}
use Rattle.std.proofs.lemmas.Iterator.Consumers.{YieldsList-turn, YieldsList-end}
use Rattle.tree_model.specs.Key.{is_key}
use Rattle.path_capture.specs.Path.{pieces, segments}
use Rattle.path_capture.proofs.Segments.{Counted-none, Counted-past, Counted-with, Counted-fits, unlawful_at, counted_all}
use Rattle.listeners.proofs.members.count_of_segments.Goals as goal

pub loop-piece-init : goal.loop-piece-init
loop-piece-init c = Counted-none (pieces c.args.text.now)

pub loop-piece-preserved-then-is_empty : goal.loop-piece-preserved-then-is_empty
loop-piece-preserved-then-is_empty c =
    let at = YieldsList-turn (YieldsList-from_str_split 47 c.args.text.now (lit< tt) (cc) (cc) (cc)) c.loop-piece.yielded _ c.loop-piece.yielded_by _ _ c.in-Some.piece c.in-Some.is c.next.ensures.steps in
    let empty : (length c.in-Some.piece.now == 0) ≡ true = grind (arith, common_steps) in
    rw length_push (Counted-past (pieces c.args.text.now) _ c.in-Some.piece.now _ at empty c.loop-piece.invariant)

pub returns-then-not-is_lawful_key : goal.returns-then-not-is_lawful_key
returns-then-not-is_lawful_key c =
    let at = YieldsList-turn (YieldsList-from_str_split 47 c.args.text.now (lit< tt) (cc) (cc) (cc)) c.loop-piece.yielded _ c.loop-piece.yielded_by _ _ c.in-Some.piece c.in-Some.is c.next.ensures.steps in
    let full : (length c.in-Some.piece.now == 0) ≡ false = grind (arith, common_steps) in
    let bad : is_key c.in-Some.piece.now ≡ false = grind (arith, common_steps) in
    let none = unlawful_at (pieces c.args.text.now) _ c.in-Some.piece.now at full bad in
    ap (λ b. cond b (Some (length (segments c.args.text.now))) None) (sym none)

pub overflow_add-count : goal.overflow_add-count
overflow_add-count c =
    let at = YieldsList-turn (YieldsList-from_str_split 47 c.args.text.now (lit< tt) (cc) (cc) (cc)) c.loop-piece.yielded _ c.loop-piece.yielded_by _ _ c.in-Some.piece c.in-Some.is c.next.ensures.steps in
    omega (arith, Counted-fits c.args.text.now _ _ at.0 c.loop-piece.invariant)

pub loop-piece-preserved : goal.loop-piece-preserved
loop-piece-preserved c =
    let at = YieldsList-turn (YieldsList-from_str_split 47 c.args.text.now (lit< tt) (cc) (cc) (cc)) c.loop-piece.yielded _ c.loop-piece.yielded_by _ _ c.in-Some.piece c.in-Some.is c.next.ensures.steps in
    let full : (length c.in-Some.piece.now == 0) ≡ false = grind (arith, common_steps) in
    let lawful : is_key c.in-Some.piece.now ≡ true = grind (arith, common_steps) in
    rw length_push (Counted-with (pieces c.args.text.now) _ c.in-Some.piece.now _ at full lawful c.loop-piece.invariant)

pub returns : goal.returns
returns c =
    let end = YieldsList-end (YieldsList-from_str_split 47 c.args.text.now (lit< tt) (cc) (cc) (cc)) c.loop-piece.yielded _ c.loop-piece.yielded_by _ _ c.in-None.is c.next.ensures.steps in
    counted_all (pieces c.args.text.now) _ _ end.1 c.loop-piece.invariant
