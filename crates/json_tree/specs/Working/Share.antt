-- What one child that changes makes of the depth and the count of its parent.
use Rattle.std.specs.Prelude.{◌≡◌, ℕ, ◌+◌, ◌-◌, ◌^◌, ◌≤◌, min, max, List, map}
use Rattle.std.specs.List.{sum_by}
use Rattle.tree_model.specs.Key.{Key}
use Rattle.tree_model.specs.PathMap.{greatest, depth}
use Rattle.tree_model.specs.Tree.{Tree, count}
use Rattle.json_tree.specs.declared.share.Exchange.{Exchange}

-- the depth of a parent of these children
abbrev pub deepest : List (Key × Tree) → ℕ
deepest cs = greatest (map (λ c. depth c.1 + 1) cs)

-- how many locations exist at its children and below them
abbrev pub counted : List (Key × Tree) → ℕ
counted cs = sum_by (λ c. count c.1) cs

-- a parent of these children is so deep and has so many locations, up to the greatest `usize`
pub record IsSizeOf (cs : List (Key × Tree)) (deep many : ℕ) : Type 0 where
  pub depth : deep ≡ deepest cs
  pub count : many ≡ min (1 + counted cs) (2 ^ 64 - 1)

-- the old children and the share after are as deep, and as many, as the new children and the share before
pub record Exchanges (old new : List (Key × Tree)) (e : Exchange) : Type 0 where
  pub gone : ℕ
  pub come : ℕ
  pub gone_is : e.before.count ≡ min gone (2 ^ 64 - 1)
  pub come_is : e.after.count ≡ min come (2 ^ 64 - 1)
  pub gone_within : gone ≤ counted old
  pub counts : counted new + gone ≡ counted old + come
  pub depths : max (deepest new) e.before.depth ≡ max (deepest old) e.after.depth
  pub after_within : e.after.depth ≤ deepest new
