use Rattle.std.proofs.Common.{◌≡◌, ◌+◌, drop}
use Rattle.expr_parser.specs.View.{views, arguments}
use Rattle.expr_places.specs.Places.{more_width, items_width}
use Rattle.expr_places.proofs.places.+widths.Given as goal

-- what is counted and what is left are all, and one that is counted twice
abbrev pub invariant-given_width-loop-argument : goal.invariant-given_width-loop-argument
invariant-given_width-loop-argument l = l.count + more_width (arguments (drop l.argument-index l.arguments.items)) ≡ 1 + more_width (arguments l.arguments.items)

abbrev pub invariant-items_width-loop-element : goal.invariant-items_width-loop-element
invariant-items_width-loop-element l = l.count + items_width (views (drop l.element-index l.elements.items)) ≡ 1 + items_width (views l.elements.items)
