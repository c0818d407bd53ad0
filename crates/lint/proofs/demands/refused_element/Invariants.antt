use Rattle.std.proofs.Common.{◌≡◌, true, List, ℕ, drop}
use Rattle.std.specs.Str.{bytes_eq}
use Rattle.expr_parser.specs.View.{views}
use Rattle.lint.specs.Demands.{lists_such}
use Rattle.lint.proofs.demands.refused_element.Given as goal

-- what is listed among those that are left is listed
abbrev pub invariant-loop-element : goal.invariant-loop-element
invariant-loop-element l = (child : List ℕ) → lists_such (λ text. bytes_eq text child) (views (drop l.element-index l.elements.items)) ≡ true → lists_such (λ text. bytes_eq text child) (views l.elements.items) ≡ true
