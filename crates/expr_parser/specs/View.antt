-- An expression of the program as a tree.
use Rattle.std.specs.Prelude.{List, [], ◌∷◌}
use Rattle.expr_parser.specs.declared.expr.Expr.{Expr, Number, Text, True, False, Null, Variable, Capture, Group', Member', Call', Not', Negate', Operation', Choice', Row_of-Argument, end_of-Argument, more_of-Argument}
use Rattle.expr_parser.specs.declared.expr.Argument.{Argument, One, List', Row_of-Expr, end_of-Expr, more_of-Expr}
use Rattle.expr_parser.specs.Tree as tree
use Rattle.expr_parser.specs.Tree.{SyntaxTree, Trees, Arguments}

abbrev mutual
  -- the tree of an expression
  pub view : Expr → SyntaxTree
  view (Number n) = tree.Number n
  view (Text s) = tree.Text s
  view True = tree.True
  view False = tree.False
  view Null = tree.Null
  view (Variable f) = tree.Variable f
  view (Capture f) = tree.Capture f
  view (Group' p x) = tree.Group (view x)
  view (Member' p x f) = tree.Member (view x) f
  view (Call' p x f n xs) = tree.Call (view x) f (view_arguments xs)
  view (Not' p x) = tree.Not (view x)
  view (Negate' p x) = tree.Negate (view x)
  view (Operation' op p x q y) = tree.Operation op (view x) (view y)
  view (Choice' p c q x r y) = tree.Choice (view c) (view x) (view y)

  pub view_argument : Argument → tree.Argument
  view_argument (One x) = tree.One (view x)
  view_argument (List' n xs) = tree.Listed (view_items xs)

  pub view_arguments : {m : _} → Row_of-Argument m → Arguments
  view_arguments end_of-Argument = tree.no_argument
  view_arguments (more_of-Argument x xs) = tree.argument (view_argument x) (view_arguments xs)

  pub view_items : {m : _} → Row_of-Expr m → Trees
  view_items end_of-Expr = tree.none
  view_items (more_of-Expr x xs) = tree.more (view x) (view_items xs)

-- the trees of a list's elements
abbrev pub views : List Expr → Trees
views [] = tree.none
views (x ∷ xs) = tree.more (view x) (views xs)

-- those of a call's arguments
abbrev pub arguments : List Argument → Arguments
arguments [] = tree.no_argument
arguments (x ∷ xs) = tree.argument (view_argument x) (arguments xs)
