use Rattle.std.proofs.Common.{◌≡◌, ◌∷◌, ◌++◌}
use Rattle.std.specs.List.{AllWithin}
use Rattle.tree_model.specs.Key.{Key}
use Rattle.tree_model.specs.Path.{Path}
use Rattle.tree_model.specs.PathMap.{sub}
use Rattle.tree_model.specs.Put.{location}
use Rattle.rtdb_core.specs.Working.Moved.{IsLeft}
use Rattle.rtdb_core.specs.Working.Passages.{tree_before, tree_after}
use Rattle.rtdb_core.proofs.children.a_child_moves.Given as goal

abbrev pub invariant-loop-write : goal.invariant-loop-write
invariant-loop-write l =
    AllWithin (λ w. (k : Key) (rest : Path) → location w ≡ l.path ++ k ∷ rest → IsLeft l.query (sub (tree_before l.passage) l.path) (sub (tree_after l.passage) l.path) k) l.passage.writes.now 0 l.write-index
