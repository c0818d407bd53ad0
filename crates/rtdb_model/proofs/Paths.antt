-- How long a path is.
use Rattle.std.proofs.Common.{◌≡◌, ◌≤◌, true, length}
use Rattle.std.proofs.lemmas.Bool.{leb-true}
use Rattle.std.specs.List.{list_all}
use Rattle.std.specs.Cmp.{second_so}
use Rattle.tree_model.specs.declared.limits.TheConstants.{MAX_DEPTH}
use Rattle.tree_model.specs.Key.{is_key}
use Rattle.tree_model.specs.Path.{Path, is_path}

-- a path has no more keys than it may
pub short_path : (p : Path) → is_path p ≡ true → length p ≤ MAX_DEPTH
unfolding is_path
short_path p h = leb-true (length p) MAX_DEPTH (second_so (list_all is_key p) _ h)
