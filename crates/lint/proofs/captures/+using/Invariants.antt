use Rattle.std.proofs.Common.{◌≡◌, drop}
use Rattle.expr_parser.specs.View.{views, arguments}
use Rattle.lint.specs.Captures.{uses_given, uses_listed}
use Rattle.lint.proofs.captures.+using.Given as goal

-- none of those before uses it, so it is used where one of those that are left does
abbrev pub invariant-are_given-loop-argument : goal.invariant-are_given-loop-argument
invariant-are_given-loop-argument l = uses_given l.name (arguments (drop l.argument-index l.arguments.items)) ≡ uses_given l.name (arguments l.arguments.items)

abbrev pub invariant-are_listed-loop-element : goal.invariant-are_listed-loop-element
invariant-are_listed-loop-element l = uses_listed l.name (views (drop l.element-index l.elements.items)) ≡ uses_listed l.name (views l.elements.items)
