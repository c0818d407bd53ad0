use Rattle.std.proofs.Common.{◌≡◌, ◌++◌, map, drop}
use Rattle.expr_parser.specs.View.{views}
use Rattle.expr_places.specs.Places.{placed_of, placed_items}
use Rattle.expr_places.proofs.places.push_items.Given as goal

-- what is there and what is left are what was there and all
abbrev pub invariant-loop-element : goal.invariant-loop-element
invariant-loop-element l = map placed_of l.parts.items ++ placed_items l.at (views (drop l.element-index l.elements.items)) ≡ map placed_of l.fn.parts.items ++ placed_items l.before (views l.elements.items)
