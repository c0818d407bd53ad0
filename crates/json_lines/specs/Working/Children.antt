-- Children of a node or of a draft, as they are read.
use Rattle.std.specs.Prelude.{◌≡◌, ℕ, List, true}
use Rattle.std.specs.List.{list_all}
use Rattle.std.specs.FinMap.{is_sorted}
use Rattle.tree_model.specs.Key.{key_cmp}
use Rattle.tree_model.specs.PathMap.{PathMap}
use Rattle.json_lines.specs.DraftMembers.{is_plain}

-- their keys strictly ascend, and each may be a child
pub record AreRead {X : Type 0} (children : List (List ℕ × PathMap X)) : Type 0 where
  pub ascending : is_sorted key_cmp children ≡ true
  pub plain : list_all is_plain children ≡ true
