use Rattle.std.proofs.Common.{◌≡◌, ◌≤◌, length, ◌+◌, ◌*◌}
use Rattle.expr_parser.specs.Working.Reading.{Climb, On, Items, read, call, postfix, after, items_on, args_on}
use Rattle.expr_parser.specs.Tree.{none}
use Rattle.expr_parser.specs.View.{view, views, arguments}
use Rattle.expr_parser.proofs.parser.+parser.Given as goal

abbrev pub decreases-given : goal.decreases-given
decreases-given l = 12 * length l.tokens.now + 9

abbrev pub decreases-argument : goal.decreases-argument
decreases-argument l = 12 * length l.tokens.now + 8

abbrev pub decreases-group : goal.decreases-group
decreases-group l = 12 * length l.tokens.now + 6

abbrev pub decreases-choice : goal.decreases-choice
decreases-choice l = 12 * length l.tokens.now + 6

abbrev pub decreases-elements : goal.decreases-elements
decreases-elements l = 12 * length l.tokens.now + 7

abbrev pub decreases-element : goal.decreases-element
decreases-element l = 12 * length l.tokens.now + 6

abbrev pub decreases-whole : goal.decreases-whole
decreases-whole l = 12 * length l.tokens.now + 5

abbrev pub decreases-climb : goal.decreases-climb
decreases-climb l = 12 * length l.tokens.now + 4

abbrev pub decreases-unary : goal.decreases-unary
decreases-unary l = 12 * length l.tokens.now + 3

abbrev pub decreases-postfix : goal.decreases-postfix
decreases-postfix l = 12 * length l.tokens.now + 2

abbrev pub decreases-primary : goal.decreases-primary
decreases-primary l = 12 * length l.tokens.now + 1

abbrev pub decreases-member : goal.decreases-member
decreases-member l = 12 * length l.tokens.now

abbrev pub invariant-elements-loop-rest : goal.invariant-elements-loop-rest
invariant-elements-loop-rest l = record {
  reading : items_on read l.depth (views l.found.items) l.rest ≡ read (Items none) l.depth l.tokens;
  shorter : length l.rest ≤ length l.tokens;
}

abbrev pub decreases-elements-loop-rest : goal.decreases-elements-loop-rest
decreases-elements-loop-rest l = length l.rest

abbrev pub invariant-given-loop-rest : goal.invariant-given-loop-rest
invariant-given-loop-rest l = record {
  reading : args_on read l.depth (arguments l.found.items) l.rest ≡ call read l.depth l.tokens;
  shorter : length l.rest ≤ length l.tokens;
}

abbrev pub decreases-given-loop-rest : goal.decreases-given-loop-rest
decreases-given-loop-rest l = length l.rest

abbrev pub invariant-climb-loop-rest : goal.invariant-climb-loop-rest
invariant-climb-loop-rest l = record {
  reading : read (On l.least (view l.found)) l.depth l.rest ≡ read (Climb l.least) l.depth l.tokens;
  shorter : length l.rest ≤ length l.tokens;
}

abbrev pub decreases-climb-loop-rest : goal.decreases-climb-loop-rest
decreases-climb-loop-rest l = length l.rest

abbrev pub invariant-postfix-loop-rest : goal.invariant-postfix-loop-rest
invariant-postfix-loop-rest l = record {
  reading : after read l.depth (view l.found) l.rest ≡ postfix read l.depth l.tokens;
  shorter : length l.rest ≤ length l.tokens;
}

abbrev pub decreases-postfix-loop-rest : goal.decreases-postfix-loop-rest
decreases-postfix-loop-rest l = length l.rest
