-- What a write puts where it is made, and what it is once a moment is filled in.
use Rattle.std.proofs.Common.{◌≡◌, ◌∷◌, [], ℕ, Option, unwrap_or, sym, ◌∙◌}
use Rattle.tree_model.specs.Path.{Path}
use Rattle.tree_model.specs.Tree.{Tree, null}
use Rattle.tree_model.specs.Put.{location, written, merged}
use Rattle.tree_model.specs.Draft.{null_draft, tree_at, as_draft, IsFixed}
use Rattle.tree_model.specs.Write.{Write, proposed}
use Rattle.tree_model.proofs.Drafts.{at_alike, as_draft-at}
use Rattle.tree_model.proofs.Writes.{IsFixed-null_draft}
use Rattle.path_capture.specs.Write.{tree_or_null}
use Rattle.path_capture.proofs.Rewinding.{same_or_null}

-- a write without a moment, made
pub made_from : (old value : Option Tree) (keys : Path) (w : Write) (now : ℕ) → IsFixed (written w) → keys ≡ location w → tree_or_null value ≡ tree_at 0 (written w) → merged (unwrap_or old null) ((keys, unwrap_or value null) ∷ []) ≡ proposed (tree_or_null old) (w ∷ []) now
made_from old value keys w now fixed at is =
    λ i. merged (same_or_null old i) ((at i, (same_or_null value ∙ is ∙ at_alike 0 now (written w) fixed) i) ∷ [])

-- nothing is filled in where nothing is put
pub null_filled : (now : ℕ) → null_draft ≡ as_draft (tree_at now null_draft)
null_filled now = sym (as_draft-at now null_draft IsFixed-null_draft)
