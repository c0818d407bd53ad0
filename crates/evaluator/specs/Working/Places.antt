-- How a snapshot in memory stands for a tree and a path.
use Rattle.std.specs.Prelude.{◌≡◌, ℕ, ◌==◌, ◌≤◌, ◌&&◌, ◌∷◌, List, [], length, nat_lt, if◌then◌else◌, Bool, true, false, Option, Some, None}
use Rattle.std.specs.Option.{option_and_then}
use Rattle.tree_model.specs.declared.limits.TheConstants.{MAX_DEPTH}
use Rattle.tree_model.specs.Key.{Key, is_key}
use Rattle.tree_model.specs.PathMap.{sub}
use Rattle.tree_model.specs.Tree.{Tree, non_null}
use Rattle.path_capture.specs.Write.{tree_or_null}
use Rattle.evaluator.specs.declared.snapshot.Above.{Above}
use Rattle.evaluator.specs.declared.snapshot.Above.TheVariants.{Nothing, Parent, Passed}
use Rattle.evaluator.specs.Value.{Snapshot}
use Rattle.evaluator.specs.Snapshot.{below}

-- the tree and the path that a place stands for, by what stands there and what is above
abbrev pub snapshot_of : Option Tree → Above → Snapshot
snapshot_of view Nothing = (tree_or_null view, [])
snapshot_of view (Parent above key) = below above.now key.now
snapshot_of view (Passed above key) = below above.now key.now

-- what stands there was looked up
abbrev pub is_seen : Above → Bool
is_seen Nothing = true
is_seen (Parent above key) = true
is_seen (Passed above key) = false

-- the view is what stands at the path, where that was looked up, and the depth is that of the path
pub record IsPlace (view : Option Tree) (seen : Bool) (deep : ℕ) (s : Snapshot) : Type 0 where
  pub at : seen ≡ true → view ≡ non_null (sub s.0 s.1)
  pub depth : deep ≡ length s.1
  pub room : deep ≤ MAX_DEPTH

-- what stands one key further down
abbrev pub down : Key → Option Tree → Option Tree
down k view = option_and_then (λ t. non_null (sub t (k ∷ []))) view

-- one piece of a text of keys: an empty one leads nowhere
abbrev pub stepped : Snapshot → List ℕ → Option Snapshot
stepped s piece =
    if length piece == 0 then Some s
    else if is_key piece && nat_lt (length s.1) MAX_DEPTH then Some (below s piece)
    else None
