-- A tree: a finite map from paths to primitives, none of which lies below another.
use Rattle.std.specs.Prelude.{◌≡◌, ℕ, List, [], ◌∷◌, true, false, if◌then◌else◌, Option, Some, None, option_map, IsSome, filter_map, flat_map}
use Rattle.std.specs.FinMap as map_of
use Rattle.std.specs.FinSet as set_of
use Rattle.std.specs.Coded.{Coded, coded_ℕ, coded_list}
use Rattle.tree_model.specs.Key.{Key, key_cmp}
use Rattle.tree_model.specs.Path.{Path, path_cmp, is_proper_prefix, prefixes, is_path}
use Rattle.tree_model.specs.PathMap.{PathMap, get, is_null, sub}
use Rattle.tree_model.specs.Primitive.{Primitive, is_primitive, primitive_code}

-- which primitive stands at which path. (Guide "Structure Your Database", how data is structured: a JSON tree.)
abbrev pub Tree : Type 0
Tree = PathMap Primitive

-- nothing stands anywhere. (Reference, `RuleDataSnapshot.val`: null where no data exists.)
abbrev pub null : Tree
null = map_of.empty

-- the tree, unless it is null
unfoldable pub non_null : {X : Type 0} → PathMap X → Option (PathMap X)
non_null t = if is_null t then None else Some t

-- no path of t is a proper prefix of another: below a primitive there is nothing
pub record IsTree (t : Tree) : Type 0 where
  pub apart : (p q : Path) → IsSome (get t p) → IsSome (get t q) → is_proper_prefix p q ≡ false

-- the tree of one primitive, which stands at the root
unfoldable pub lone : {X : Type 0} → X → PathMap X
lone v = map_of.from_entries (([], v) ∷ [])

-- ---- locations: the subtree at p is `sub t p` (Reference, `RuleDataSnapshot.child`), p exists where `exists t p` (Reference, `RuleDataSnapshot.exists`), and `depth t` is the most keys above a primitive (Guide "Structure Your Database", avoid nesting data)

-- the locations that exist: all prefixes of the paths of primitives
unfoldable pub existing : {X : Type 0} → PathMap X → set_of.FinSet path_cmp
existing t = set_of.from_list (flat_map prefixes (map_of.keys t))

-- how many locations exist, the root among them. (This project's profile.)
unfoldable pub count : {X : Type 0} → PathMap X → ℕ
count t = set_of.len (existing t)

-- ---- children

-- the key with which a path begins; the root's path has none
abbrev pub first_key : Path → Option Key
first_key [] = None
first_key (k ∷ p) = Some k

-- the children: each first key of a path, with the subtree at it. (Reference, `RuleDataSnapshot.hasChildren`.)
unfoldable pub children : {X : Type 0} → PathMap X → map_of.FinMap key_cmp (PathMap X)
children t = map_of.from_entries (filter_map (λ e. option_map (λ k. (k, sub t (k ∷ []))) (first_key e.0)) (map_of.entries t))

-- the keys of the children, in their order
unfoldable pub child_keys : {X : Type 0} → PathMap X → List Key
child_keys t = map_of.keys (children t)

-- ---- what may be stored

-- a lawful tree: its keys and primitives are lawful, and no primitive stands over 32 keys deep
pub record IsLawful (t : Tree) : Type 0 where
  pub tree : IsTree t
  pub paths : (p : Path) → IsSome (get t p) → is_path p ≡ true
  pub primitives : (p : Path) (v : Primitive) → get t p ≡ Some v → is_primitive v ≡ true

-- ---- as data: what distinguishes two trees

-- a tree is distinguished by its paths and the primitives at them
abbrev pub tree_code : Coded Tree
tree_code = map_of.code (coded_list (coded_list coded_ℕ)) primitive_code
