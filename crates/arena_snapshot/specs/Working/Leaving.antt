-- Writes that leave what stands at a path as it is.
use Rattle.std.specs.Prelude.{◌≡◌, true, false, length, drop}
use Rattle.tree_model.specs.Path.{Path, is_prefix}
use Rattle.tree_model.specs.PathMap.{sub}
use Rattle.tree_model.specs.Tree.{Tree}
use Rattle.tree_model.specs.Put.{Put, location, written}

-- the write puts at, above or below the path what stands there
pub record Leaves (t : Tree) (p : Path) (w : Put) : Type 0 where
  pub below : is_prefix p (location w) ≡ true → sub t (location w) ≡ written w
  pub above : is_prefix p (location w) ≡ false → is_prefix (location w) p ≡ true → sub t p ≡ sub (written w) (drop (length (location w)) p)
