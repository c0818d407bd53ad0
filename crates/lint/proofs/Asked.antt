-- What a call with a list asks for.
use Rattle.std.proofs.Common.{◌≡◌, ℕ, Bool, List, codes, ap, ◌∙◌, Vec, Global, ◌&&◌}
use Rattle.std.specs.Str.{bytes_eq}
use Rattle.expr_parser.specs.declared.expr.Expr.{Expr}
use Rattle.expr_parser.specs.declared.expr.Argument.{Argument, List as Listing}
use Rattle.expr_parser.specs.View.{view_argument, views}
use Rattle.expr_parser.proofs.Knots.{view-List}
use Rattle.lint.specs.Demands.{asks_by_one, lists_such}

pub asked_of_list : (test : List ℕ → Bool) (f : List ℕ) (argument : Argument) (values : Vec Expr Global) → argument ≡ Listing values → asks_by_one test f (view_argument argument) ≡ (bytes_eq f (codes "hasChildren") && lists_such test (views values.items))
asked_of_list test f argument values is = ap (asks_by_one test f) (ap view_argument is ∙ view-List values)
