use Rattle.std.proofs.Common.{rules, arith, length-drop}
use Rattle.std.proofs.lemmas.Grind.{common_steps}
use Rattle.std.proofs.lemmas.List.{length-take}
use Rattle.expr_tokens.specs.declared.token.Token.{Token}
use Rattle.expr_parser.specs.Working.Reading.{Whole, On, After, Unary}
use Rattle.expr_parser.specs.Tree.{none, no_argument}
use Rattle.expr_parser.specs.View.{view}
use Rattle.expr_parser.proofs.Turns.{read_step}
use Rattle.expr_parser.proofs.Knots.{whole_is, climb_is, args_by_one, items_by_one, views-push, arguments-push, view-Call, view-List}
use Rattle.expr_parser.proofs.parser.+parser.Goals as goal

pub argument-returns-in_err-rest-clause-gives : goal.argument-returns-in_err-rest-clause-gives
argument-returns-in_err-rest-clause-gives m c = grind (arith, common_steps, read_step Whole c.args.depth c.args.tokens.now)

pub argument-returns-in_default-clause-gives : goal.argument-returns-in_default-clause-gives
argument-returns-in_default-clause-gives m c = rw (c.in_ok-push.ensures.items, arguments-push c.args.found.now.items _) (grind (arith, common_steps, read_step Whole c.args.depth c.args.tokens.now))

pub argument-returns-clause-gives : goal.argument-returns-clause-gives
argument-returns-clause-gives m c = rw (c.in_ok-push-2.ensures.items, arguments-push c.args.found.now.items _, view-List _) (grind (arith, common_steps))

pub climb-returns-in_err-rest-clause-gives : goal.climb-returns-in_err-rest-clause-gives
climb-returns-in_err-rest-clause-gives m c = rw (climb_is c.args.least c.args.depth c.args.tokens.now) (grind (arith, common_steps))

pub climb-loop-rest-init : goal.climb-loop-rest-init
climb-loop-rest-init m c = record {
  reading = rw ((climb_is c.args.least c.args.depth c.args.tokens.now), read_step (On c.args.least (view c.unary.new.found)) c.args.depth c.in_ok-rest.rest.now) (grind (arith, common_steps));
  shorter = omega (arith, c.in_ok-rest.ensures.shorter);
}

pub climb-returns-in_default-clause-gives : goal.climb-returns-in_default-clause-gives
climb-returns-in_default-clause-gives m c = rw (← c.loop-rest.invariant.reading, (read_step (On c.args.least (view c.loop-rest.found)) c.args.depth c.loop-rest.rest.now)) (grind (arith, common_steps))

pub climb-returns-in_default-first : goal.climb-returns-in_default-first
climb-returns-in_default-first m c = record {
  gives = rw (← c.loop-rest.invariant.reading, (read_step (On c.args.least (view c.loop-rest.found)) c.args.depth c.loop-rest.rest.now)) (grind (arith, common_steps));
  shorter = c.loop-rest.invariant.shorter;
}

pub climb-returns-then-level-least-clause-gives : goal.climb-returns-then-level-least-clause-gives
climb-returns-then-level-least-clause-gives m c = rw (← c.loop-rest.invariant.reading, (read_step (On c.args.least (view c.loop-rest.found)) c.args.depth c.loop-rest.rest.now)) (grind (arith, common_steps))

pub climb-returns-in_err-after-clause-gives : goal.climb-returns-in_err-after-clause-gives
climb-returns-in_err-after-clause-gives m c = rw (← c.loop-rest.invariant.reading, (read_step (On c.args.least (view c.loop-rest.found)) c.args.depth c.loop-rest.rest.now)) (grind (arith, common_steps))

pub climb-loop-rest-preserved : goal.climb-loop-rest-preserved
climb-loop-rest-preserved m c = record {
  reading = rw (← c.loop-rest.invariant.reading, (read_step (On c.args.least (view c.loop-rest.found)) c.args.depth c.loop-rest.rest.now)) (grind (arith, common_steps));
  shorter = omega (arith, c.in_ok-after.ensures.shorter, c.loop-rest.invariant.shorter, length-take {A = Token}, length-drop {A = Token});
}

pub element-returns-clause-gives : goal.element-returns-clause-gives
element-returns-clause-gives m c = rw (c.in_ok-push.ensures.items, views-push c.args.found.now.items _) (grind (arith, common_steps))

pub elements-returns-in_err-rest-clause-gives : goal.elements-returns-in_err-rest-clause-gives
elements-returns-in_err-rest-clause-gives m c = rw (items_by_one c.args.depth none c.args.tokens.now) (grind (arith, common_steps))

pub elements-loop-rest-init : goal.elements-loop-rest-init
elements-loop-rest-init m c = record {
  reading = rw (items_by_one c.args.depth none c.args.tokens.now) (grind (arith, common_steps));
  shorter = c.in_ok-rest.ensures.shorter;
}

pub elements-returns-in_err-rest-2-clause-gives : goal.elements-returns-in_err-rest-2-clause-gives
elements-returns-in_err-rest-2-clause-gives m c = rw (← c.loop-rest.invariant.reading) (grind (arith, common_steps, items_by_one))

pub elements-loop-rest-preserved : goal.elements-loop-rest-preserved
elements-loop-rest-preserved m c = record {
  reading = rw (← c.loop-rest.invariant.reading) (grind (arith, common_steps, items_by_one));
  shorter = omega (arith, c.in_ok-rest-2.ensures.shorter, c.loop-rest.invariant.shorter, length-take {A = Token}, length-drop {A = Token});
}

pub given-returns-in_err-rest-clause-gives : goal.given-returns-in_err-rest-clause-gives
given-returns-in_err-rest-clause-gives m c = grind (arith, common_steps, args_by_one c.args.depth no_argument c.args.tokens.now)

pub given-loop-rest-init : goal.given-loop-rest-init
given-loop-rest-init m c = record {
  reading = grind (arith, common_steps, args_by_one c.args.depth no_argument c.args.tokens.now);
  shorter = c.in_ok-rest.ensures.shorter;
}

pub given-returns-in_err-rest-2-clause-gives : goal.given-returns-in_err-rest-2-clause-gives
given-returns-in_err-rest-2-clause-gives m c = rw (← c.loop-rest.invariant.reading) (grind (arith, common_steps, args_by_one))

pub given-loop-rest-preserved : goal.given-loop-rest-preserved
given-loop-rest-preserved m c = record {
  reading = rw (← c.loop-rest.invariant.reading) (grind (arith, common_steps, args_by_one));
  shorter = omega (arith, c.in_ok-rest-2.ensures.shorter, c.loop-rest.invariant.shorter, length-take {A = Token}, length-drop {A = Token});
}

pub member-returns-clause-gives : goal.member-returns-clause-gives
member-returns-clause-gives m c = rw (view-Call c.in_ok-receiver.receiver _ _) (grind (arith, common_steps))

pub postfix-loop-rest-preserved : goal.postfix-loop-rest-preserved
postfix-loop-rest-preserved m c = record {
  reading = rw (← c.loop-rest.invariant.reading, ← read_step (After (view c.member.new.found)) c.args.depth c.in_ok-rest-2.rest.now) (grind (arith, common_steps));
  shorter = omega (arith, c.in_ok-rest-2.ensures.shorter, c.loop-rest.invariant.shorter, length-take {A = Token}, length-drop {A = Token});
}

pub unary-returns-then-depth-ge-MAX_LEVELS-clause-gives : goal.unary-returns-then-depth-ge-MAX_LEVELS-clause-gives
unary-returns-then-depth-ge-MAX_LEVELS-clause-gives m c = rw (read_step Unary c.args.depth c.args.tokens.now) (search rules)

pub unary-returns-in_err-rest-in-Not-clause-gives : goal.unary-returns-in_err-rest-in-Not-clause-gives
unary-returns-in_err-rest-in-Not-clause-gives m c = rw (read_step Unary c.args.depth c.args.tokens.now) (grind (arith, common_steps))

pub unary-returns-then-depth-ge-MAX_LEVELS-2-clause-gives : goal.unary-returns-then-depth-ge-MAX_LEVELS-2-clause-gives
unary-returns-then-depth-ge-MAX_LEVELS-2-clause-gives m c = rw (read_step Unary c.args.depth c.args.tokens.now) (search rules)

pub unary-returns-in_err-rest-in-Operator-clause-gives : goal.unary-returns-in_err-rest-in-Operator-clause-gives
unary-returns-in_err-rest-in-Operator-clause-gives m c = rw (read_step Unary c.args.depth c.args.tokens.now) (grind (arith, common_steps))

pub unary-returns-in_ok-rest-in-Not-clause-gives : goal.unary-returns-in_ok-rest-in-Not-clause-gives
unary-returns-in_ok-rest-in-Not-clause-gives m c = rw (read_step Unary c.args.depth c.args.tokens.now) (grind (arith, common_steps))

pub unary-returns-in_ok-rest-in-Operator-clause-gives : goal.unary-returns-in_ok-rest-in-Operator-clause-gives
unary-returns-in_ok-rest-in-Operator-clause-gives m c = rw (read_step Unary c.args.depth c.args.tokens.now) (grind (arith, common_steps))

pub unary-returns-in_default-clause-gives : goal.unary-returns-in_default-clause-gives
unary-returns-in_default-clause-gives m c = rw (read_step Unary c.args.depth c.args.tokens.now) (search rules)

pub whole-returns-in_err-rest-clause-gives : goal.whole-returns-in_err-rest-clause-gives
whole-returns-in_err-rest-clause-gives m c = rw (whole_is c.args.depth c.args.tokens.now) (grind (arith, common_steps))

pub whole-returns-in_default-clause-gives : goal.whole-returns-in_default-clause-gives
whole-returns-in_default-clause-gives m c = rw (whole_is c.args.depth c.args.tokens.now) (grind (arith, common_steps))

pub whole-returns-then-depth-ge-MAX_LEVELS-clause-gives : goal.whole-returns-then-depth-ge-MAX_LEVELS-clause-gives
whole-returns-then-depth-ge-MAX_LEVELS-clause-gives m c = rw (whole_is c.args.depth c.args.tokens.now) (grind (arith, common_steps))

pub whole-returns-clause-gives : goal.whole-returns-clause-gives
whole-returns-clause-gives m c = rw (whole_is c.args.depth c.args.tokens.now) (grind (arith, common_steps))
