use Rattle.std.proofs.Common.{◌≡◌, true, drop}
use Rattle.expr_parser.specs.View.{views, arguments}
use Rattle.path_capture.specs.Captures.{names}
use Rattle.expr_types.specs.Working.SortOf.{given_of, are_values}
use Rattle.expr_types.specs.declared.sort.Given.TheVariants.{Nothing}
use Rattle.expr_types.proofs.checker.Checker.+sorts.Given as goal

-- what is left to read gives what all gives
abbrev pub invariant-are_values-loop-element : goal.invariant-are_values-loop-element
invariant-are_values-loop-element l = are_values l.self.place (names l.self.captures.now) l.all (views (drop l.element-index l.elements.items)) ≡ are_values l.self.place (names l.self.captures.now) true (views l.elements.items)

abbrev pub invariant-given-loop-argument : goal.invariant-given-loop-argument
invariant-given-loop-argument l = given_of l.self.place (names l.self.captures.now) l.found (arguments (drop l.argument-index l.arguments.items)) ≡ given_of l.self.place (names l.self.captures.now) Nothing (arguments l.arguments.items)
