use Rattle.std.proofs.Common.{◌≡◌, drop}
use Rattle.expr_parser.specs.View.{views, arguments}
use Rattle.expr_types.specs.Scope.{wider, scope_given, scope_listed}
use Rattle.expr_types.proofs.scope.+scopes.Given as goal

-- what was found so far, and what is left, give what all gives
abbrev pub invariant-of_arguments-loop-argument : goal.invariant-of_arguments-loop-argument
invariant-of_arguments-loop-argument l = wider l.widest (scope_given (arguments (drop l.argument-index l.arguments.items))) ≡ scope_given (arguments l.arguments.items)

abbrev pub invariant-of_elements-loop-element : goal.invariant-of_elements-loop-element
invariant-of_elements-loop-element l = wider l.widest (scope_listed (views (drop l.element-index l.elements.items))) ≡ scope_listed (views l.elements.items)
