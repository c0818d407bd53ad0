-- What a write puts.
use Rattle.std.specs.Prelude.{Option, Some, None}
use Rattle.tree_model.specs.Tree.{Tree, null}
use Rattle.tree_model.specs.Draft.{Draft, null_draft}

-- the tree of an optional node: none is null
abbrev pub tree_or_null : Option Tree → Tree
tree_or_null None = null
tree_or_null (Some t) = t

-- the draft of an optional one: none is null, which removes
abbrev pub draft_or_null : Option Draft → Draft
draft_or_null None = null_draft
draft_or_null (Some d) = d
