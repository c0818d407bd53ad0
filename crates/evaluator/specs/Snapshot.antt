-- What is asked of a snapshot, as statements on the pairs of its tree.
use Rattle.std.specs.Prelude.{ℕ, ◌+◌, ◌++◌, ◌&&◌, Bool, true, false, List, [], ◌∷◌, length, nat_le, if◌then◌else◌, Option, Some, None}
use Rattle.std.specs.List.{list_all, list_any}
use Rattle.std.specs.FinMap as map_of
use Rattle.tree_model.specs.declared.limits.TheConstants.{MAX_DEPTH}
use Rattle.tree_model.specs.Key.{Key, is_key}
use Rattle.tree_model.specs.Path.{Path, is_proper_prefix}
use Rattle.tree_model.specs.PathMap.{get, exists}
use Rattle.tree_model.specs.Primitive as primitive
use Rattle.tree_model.specs.Primitive.{Primitive}
use Rattle.path_capture.specs.Path.{segments}
use Rattle.evaluator.specs.Value.{Value, null, sentinel, Snapshot, of_primitive}

-- something exists there: the path of some pair extends the path. (Reference, `RuleDataSnapshot.exists`.)
abbrev pub exists_at : Snapshot → Bool
exists_at s = exists s.0 s.1

-- the primitive that stands there: the pair at the path itself, if there is one
abbrev pub primitive_at : Snapshot → Option Primitive
primitive_at s = get s.0 s.1

-- the primitive, or else the sentinel
abbrev pub primitive_or_sentinel : Option Primitive → Value
primitive_or_sentinel None = sentinel
primitive_or_sentinel (Some v) = of_primitive v

-- the primitive; null where nothing exists; else the sentinel. (Reference, `RuleDataSnapshot.val`; the sentinel is this project's profile.)
abbrev pub val_at : Snapshot → Value
val_at s = if exists_at s then primitive_or_sentinel (primitive_at s) else null

-- something exists properly below: the path is a proper prefix of that of some pair. (Reference, `RuleDataSnapshot.hasChildren`.)
abbrev pub has_children_at : Snapshot → Bool
has_children_at s = list_any (is_proper_prefix s.1) (map_of.keys s.0)

-- a number. (Reference, `RuleDataSnapshot.isNumber`.)
abbrev pub is_number : Option Primitive → Bool
is_number (Some (primitive.whole z)) = true
is_number _ = false

-- a text. (Reference, `RuleDataSnapshot.isString`.)
abbrev pub is_string : Option Primitive → Bool
is_string (Some (primitive.words s)) = true
is_string _ = false

-- a boolean. (Reference, `RuleDataSnapshot.isBoolean`.)
abbrev pub is_boolean : Option Primitive → Bool
is_boolean (Some (primitive.truth b)) = true
is_boolean _ = false

-- the same tree, with the keys of the text behind the path, if they are lawful and the whole path has at most 32. (Reference, `RuleDataSnapshot.child`; that a path that is not lawful errs is this project's profile.)
abbrev pub child_at : Snapshot → List ℕ → Option Snapshot
child_at s text = if list_all is_key (segments text) && nat_le (length s.1 + length (segments text)) MAX_DEPTH then Some (s.0, s.1 ++ segments text) else None

-- k and then p without its last key
abbrev pub without_last : Key → Path → Path
without_last k [] = []
without_last k (l ∷ p) = k ∷ without_last l p

-- the same tree, with the last key of the path dropped, but at the root. (Reference, `RuleDataSnapshot.parent`.)
abbrev pub parent_at : Snapshot → Option Snapshot
parent_at (t, []) = None
parent_at (t, k ∷ p) = Some (t, without_last k p)

-- the root of the same tree
abbrev pub root_of : Snapshot → Snapshot
root_of s = (s.0, [])

-- the location one key further down in the same tree
abbrev pub below : Snapshot → Key → Snapshot
below s k = (s.0, s.1 ++ k ∷ [])
