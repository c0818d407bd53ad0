-- That what an expression means is of its sort.
use Rattle.std.specs.Prelude.{◌≡◌, List, ◌∷◌, ◌++◌, Option, Some, None, ⊤}
use Rattle.expr_parser.specs.Tree.{SyntaxTree}
use Rattle.expr_types.specs.declared.sort.Sort.{Sort}
use Rattle.expr_types.specs.Faults.{parts}
use Rattle.evaluator.specs.Value.{Meaning, sort_of_part}

-- an error, or a part of this sort
abbrev pub IsOfSort : Sort → Option Meaning → Type 0
IsOfSort s None = ⊤
IsOfSort s (Some p) = sort_of_part p ≡ s

-- x stands in an expression: it is the expression, or stands in a part of it
pub data StandsIn (x : SyntaxTree) : SyntaxTree → Type 0 where
  whole : StandsIn x x
  in_part : {z : SyntaxTree} (before : List SyntaxTree) (y : SyntaxTree) (after : List SyntaxTree) → parts z ≡ before ++ y ∷ after → StandsIn x y → StandsIn x z
