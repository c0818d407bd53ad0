use Rattle.std.proofs.Common.{◌≡◌, ◌<◌, ◌≤◌, ℕ, false, length, get_or}
use Rattle.std.specs.List.{All}
use Rattle.tree_model.specs.Put.{written, overlaps}
use Rattle.tree_model.specs.Draft.{null_draft}
use Rattle.tree_model.specs.Write.{Write, proposed}
use Rattle.path_capture.specs.Write.{tree_or_null}
use Rattle.path_capture.proofs.Rewinding.{LeadsBack}
use Rattle.path_capture.proofs.update.make_puts.Given as goal

-- what is left leads to the same tree as all did, those from the index on are removals, and what was made leads back
abbrev pub invariant-loop-i : goal.invariant-loop-i
invariant-loop-i l = record {
  within : l.i ≤ length l.left.items;
  apart : overlaps l.left.items ≡ false;
  goal : proposed (tree_or_null l.tree) l.left.items 0 ≡ proposed (tree_or_null l.initial.tree) l.initial.left.items 0;
  removals : (k : ℕ) (d : Write) → k < length l.left.items → l.i ≤ k → written (get_or l.left.items k d) ≡ null_draft;
  back : LeadsBack l.undos.items (tree_or_null l.tree) (tree_or_null l.initial.tree);
  nothing : All (λ write. written write ≡ null_draft) l.initial.left.items → All (λ write. written write ≡ null_draft) l.left.items;
}

-- each turn goes past one write
abbrev pub decreases-loop-i : goal.decreases-loop-i
decreases-loop-i l = l.i
