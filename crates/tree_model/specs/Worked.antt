-- Worked values: small trees written out.
use Rattle.std.specs.Prelude.{List}
use Rattle.std.specs.FinMap as map_of
use Rattle.tree_model.specs.Path.{Path}
use Rattle.tree_model.specs.Primitive.{Primitive}
use Rattle.tree_model.specs.Tree.{Tree}

-- the tree of these pairs
abbrev pub tree_of_pairs : List (Path × Primitive) → Tree
tree_of_pairs es = map_of.from_entries es
