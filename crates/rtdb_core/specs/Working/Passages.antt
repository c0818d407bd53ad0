-- What listeners are judged by, as the code holds it. No public clause stands on these words.
use Rattle.std.specs.Prelude.{◌≡◌, ◌≤◌, false, Option, option_map}
use Rattle.std.specs.Borrow.{Bor}
use Rattle.tree_model.specs.Tree.{Tree}
use Rattle.tree_model.specs.Put.{overlaps}
use Rattle.tree_model.specs.Write.{proposed, AreFixed}
use Rattle.path_capture.specs.Write.{tree_or_null}
use Rattle.arena_snapshot.specs.View.{node_or_null}
use Rattle.evaluator.specs.Identity.{Identity}
use Rattle.evaluator.specs.declared.env.TheConstants.{MAX_MOMENT}
use Rattle.rtdb_core.specs.declared.passage.Passage.{Passage}

-- the tree is what the writes propose at this moment, and no moment stands in them
pub record IsPassage (p : Passage) : Type 0 where
  pub moment : p.moment ≤ MAX_MOMENT
  pub apart : overlaps p.writes.now ≡ false
  pub fixed : AreFixed p.writes.now
  pub coming : tree_or_null p.coming ≡ proposed (node_or_null p.base) p.writes.now p.moment

-- the tree before the step
abbrev pub tree_before : Passage → Tree
tree_before p = node_or_null p.base

-- the tree after the step: what its writes propose at its moment
abbrev pub tree_after : Passage → Tree
tree_after p = proposed (node_or_null p.base) p.writes.now p.moment

-- who is signed in, if anybody is
abbrev pub who_of : Option (Bor Identity) → Option Identity
who_of who = option_map (λ (one : Bor Identity). one.now) who
