use Rattle.std.proofs.Common.{arith, ap, sym, drop, ◌∙◌}
use Rattle.std.proofs.lemmas.Grind.{common_steps}
use Rattle.expr_parser.specs.View.{view, arguments}
use Rattle.expr_parser.proofs.Knots.{view-Call}
use Rattle.expr_parser.specs.Tree.{Call}
use Rattle.expr_places.specs.Places.{placed_parts}
use Rattle.diagnosis.proofs.Faulty.{variable_shows, capture_shows, member_shows, call_shows, operand_shows, found_some, found_none}
use Rattle.diagnosis.proofs.blame.token_of_own.Goals as goal

pub returns-in-Variable : goal.returns-in-Variable
returns-in-Variable c = variable_shows (view c.args.expr.now) c.in-Variable.field-0 c.args.fault.now (ap view c.in-Variable.is) c.requires.own c.requires.at_fault

pub returns-in-Capture : goal.returns-in-Capture
returns-in-Capture c = capture_shows (view c.args.expr.now) c.in-Capture.field-0 c.args.fault.now (ap view c.in-Capture.is) c.requires.own c.requires.at_fault

pub returns-in_ok-behind-in-Member : goal.returns-in_ok-behind-in-Member
returns-in_ok-behind-in-Member c = member_shows (view c.args.expr.now) (view c.in-Member.receiver.value) c.in-Member.field-1 c.args.fault.now c.in_ok-behind-in-Member.field-0 (ap view c.in-Member.is) c.requires.own (grind (arith, common_steps)) c.requires.at_fault

pub returns-in-Some : goal.returns-in-Some
returns-in-Some c =
    let is = ap view c.in-Call.is ∙ view-Call c.in-Call.receiver c.in-Call.field-1 c.in-Call.field-2 in
    let found = found_some _ c.in-Some.is c.in_ok-token-in-Call.ensures.some in
    operand_shows (view c.args.expr.now) (Call (view c.in-Call.receiver.value) c.in-Call.field-1 (arguments c.in-Call.field-2.items)) c.args.fault.now c.in-Some.token (drop 1 (placed_parts (view c.args.expr.now))) is c.requires.own found.0 (ap (λ x. drop 1 (placed_parts x)) (sym is)) found.1 c.requires.at_fault

pub returns-in_ok-behind-in-None : goal.returns-in_ok-behind-in-None
returns-in_ok-behind-in-None c =
    let is = ap view c.in-Call.is ∙ view-Call c.in-Call.receiver c.in-Call.field-1 c.in-Call.field-2 in
    call_shows (view c.args.expr.now) (view c.in-Call.receiver.value) c.in-Call.field-1 (arguments c.in-Call.field-2.items) c.args.fault.now c.in_ok-behind-in-None.field-0 is c.requires.own (grind (arith, common_steps)) (found_none c.in-None.is c.in_ok-token-in-Call.ensures.none) c.requires.at_fault
