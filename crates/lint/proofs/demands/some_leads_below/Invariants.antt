use Rattle.std.proofs.Common.{◌≡◌, drop}
use Rattle.expr_parser.specs.View.{views}
use Rattle.lint.specs.Demands.{leads_below, lists_such}
use Rattle.lint.proofs.demands.some_leads_below.Given as goal

abbrev pub invariant-loop-element : goal.invariant-loop-element
invariant-loop-element l = lists_such leads_below (views (drop l.element-index l.elements.items)) ≡ lists_such leads_below (views l.elements.items)
