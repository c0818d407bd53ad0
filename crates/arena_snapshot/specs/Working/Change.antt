-- A tree of which a few children are other ones, or gone.
use Rattle.std.specs.Prelude.{◌≡◌, ◌≢◌, ℕ, ◌∷◌, [], List, map, true, Bool, if◌then◌else◌, Option, Some, None, unwrap_or}
use Rattle.std.specs.List.{AllByRecursion, sum_by}
use Rattle.std.specs.Option.{option_map_or}
use Rattle.std.specs.Ordering.{is_lt}
use Rattle.std.specs.declared.cmp.Ordering.TheVariants.{Less}
use Rattle.std.specs.FinMap as map_of
use Rattle.std.specs.FinMap.{is_sorted}
use Rattle.tree_model.specs.Key.{Key, key_cmp}
use Rattle.tree_model.specs.PathMap.{get}
use Rattle.tree_model.specs.Tree.{Tree, null, non_null, count, children}
use Rattle.tree_model.specs.Put.{Put, merged}

-- a key, and the child that is then there, if any
abbrev pub Change : Type 0
Change = Key × Option Tree

-- the write of that child
abbrev pub write_of : Change → Put
write_of c = (c.0 ∷ [], unwrap_or c.1 null)

-- the tree with these children in place of its own at these keys
abbrev pub changed : Tree → List Change → Tree
changed t cs = merged t (map write_of cs)

-- these may change a tree: no primitive stands at its root, their keys strictly ascend, and no child is null
pub record AreChanges (t : Tree) (cs : List Change) : Type 0 where
  pub root : get t [] ≡ None
  pub ascending : is_sorted key_cmp cs ≡ true
  pub each : AllByRecursion (λ c. c.1 ≢ Some null) cs

-- the children with their keys
abbrev pub entries_of : Tree → List (Key × Tree)
entries_of t = map_of.entries (children t)

-- ---- sums over children, of a number for each key and child

-- the number of the child of a key, and none where there is no child
abbrev pub shared : (Key → Tree → ℕ) → Key → Option Tree → ℕ
shared g k o = option_map_or (g k) o 0

-- the same of the subtree at the key
abbrev pub share : (Key → Tree → ℕ) → Key → Tree → ℕ
share g k t = shared g k (non_null t)

-- the sum of the numbers of its children
abbrev pub total : (Key → Tree → ℕ) → Tree → ℕ
total g t = sum_by (λ (c : Key × Tree). g c.0 c.1) (entries_of t)

-- 1 where it is so, else 0
abbrev pub one_if : Bool → ℕ
one_if b = if b then 1 else 0

-- each child as one
abbrev pub one : Key → Tree → ℕ
one k t = 1

-- the locations of each child
abbrev pub locations : Key → Tree → ℕ
locations k t = count t

-- the locations of a child, if there is one
abbrev pub locations_of : Option Tree → ℕ
locations_of o = option_map_or count o 0

-- a child as one, if there is one
abbrev pub one_of : Option Tree → ℕ
one_of o = option_map_or (λ t. 1) o 0

-- the key stands before another
abbrev pub is_before : Key → Key → Bool
is_before k l = is_lt (key_cmp k l)

-- each child whose key stands before this one as one
abbrev pub below : Key → Key → Tree → ℕ
below k l t = one_if (is_before l k)

-- how many children stand before a key
abbrev pub before : Key → Tree → ℕ
before k t = total (below k) t

-- each of these keys stands before k
abbrev pub AllBefore : Key → List Change → Type 0
AllBefore k cs = AllByRecursion (λ c. key_cmp c.0 k ≡ Less) cs
