-- What is kept of selections. No public clause stands on these words.
use Rattle.std.specs.Prelude.{◌≡◌, List, Some, All}
use Rattle.tree_model.specs.Tree.{Tree, non_null}
use Rattle.rtdb_model.specs.Rejudged.{selected_at}
use Rattle.rtdb_core.specs.declared.selections.Selected.{Selected}

-- it is what the query selects of what stands at the path of this tree
abbrev pub IsSelectedAt : Tree → Selected → Type 0
IsSelectedAt tree it = it.view ≡ non_null (selected_at tree it.path.now (Some it.query.now))

-- it is so for all of these
abbrev pub AreSelected : Tree → List Selected → Type 0
AreSelected tree all = All (IsSelectedAt tree) all
