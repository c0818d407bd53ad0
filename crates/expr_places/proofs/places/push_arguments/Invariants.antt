use Rattle.std.proofs.Common.{◌≡◌, ◌++◌, map, drop}
use Rattle.expr_parser.specs.View.{arguments}
use Rattle.expr_places.specs.Places.{placed_of, placed_arguments}
use Rattle.expr_places.proofs.places.push_arguments.Given as goal

-- what is there and what is left are what was there and all
abbrev pub invariant-loop-argument : goal.invariant-loop-argument
invariant-loop-argument l = map placed_of l.parts.items ++ placed_arguments l.at (arguments (drop l.argument-index l.arguments.items)) ≡ map placed_of l.fn.parts.items ++ placed_arguments l.before (arguments l.arguments.items)
