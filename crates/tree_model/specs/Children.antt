-- A tree whose children are given.
use Rattle.std.specs.Prelude.{◌≡◌, ◌≢◌, ◌<◌, List, [], true, flat_map}
use Rattle.std.specs.List.{AllByRecursion}
use Rattle.std.specs.FinMap as map_of
use Rattle.tree_model.specs.declared.limits.TheConstants.{MAX_DEPTH}
use Rattle.tree_model.specs.Key.{Key, key_cmp, is_key}
use Rattle.tree_model.specs.PathMap.{PathMap, under, depth}
use Rattle.tree_model.specs.Tree.{Tree, IsLawful}

-- the tree whose child of each of these keys is the tree beside it
unfoldable pub graft : {X : Type 0} → List (Key × PathMap X) → PathMap X
graft cs = map_of.from_entries (flat_map (λ c. under c.0 (map_of.entries c.1)) cs)

-- these may be a node's children: there is one, their keys strictly ascend, and none is null
pub record AreChildren {X : Type 0} (cs : List (Key × PathMap X)) : Type 0 where
  pub some : cs ≢ []
  pub ascending : map_of.is_sorted key_cmp cs ≡ true
  pub each : AllByRecursion (λ c. c.1 ≢ map_of.empty) cs

-- a lawful child: a lawful key, and a lawful tree that leaves room for that key
pub record IsLawfulChild (c : Key × Tree) : Type 0 where
  pub key : is_key c.0 ≡ true
  pub tree : IsLawful c.1
  pub depth : depth c.1 < MAX_DEPTH
