-- What calls give.
use Rattle.std.specs.Prelude.{ℕ, Bool, true, ◌&&◌, if◌then◌else◌, List, [], ◌∷◌, codes, Option, Some, None, option_map}
use Rattle.std.specs.Option.{option_and_then}
use Rattle.std.specs.Str.{bytes_eq}
use Rattle.tree_model.specs.Primitive.{Primitive}
use Rattle.evaluator.specs.Value.{Value, truth, words, Meaning, value, snapshot, Snapshot}
use Rattle.evaluator.specs.Snapshot.{exists_at, primitive_at, val_at, has_children_at, is_number, is_string, is_boolean, child_at, parent_at}
use Rattle.evaluator.specs.Texts.{text_test, text_change}

-- ---- snapshots

-- whether a primitive of that type stands there
unfoldable pub type_test : List ℕ → Option Primitive → Option Value
type_test f v =
    if bytes_eq (codes "isNumber") f then Some (truth (is_number v))
    else if bytes_eq (codes "isString") f then Some (truth (is_string v))
    else if bytes_eq (codes "isBoolean") f then Some (truth (is_boolean v))
    else None

-- a method of a snapshot that takes nothing and gives a value. (Reference, RuleDataSnapshot methods.)
unfoldable pub snapshot_test : List ℕ → Snapshot → Option Value
snapshot_test f s =
    if bytes_eq (codes "val") f then Some (val_at s)
    else if bytes_eq (codes "exists") f then Some (truth (exists_at s))
    else if bytes_eq (codes "hasChildren") f then Some (truth (has_children_at s))
    else type_test f (primitive_at s)

-- one that takes nothing: `parent()` gives a snapshot. (The same section.)
unfoldable pub snapshot_call : List ℕ → Snapshot → Option Meaning
snapshot_call f s = if bytes_eq (codes "parent") f then option_map snapshot (parent_at s) else option_map value (snapshot_test f s)

-- the child at a text of keys; what is no text errs
abbrev pub child_of : Snapshot → Value → Option Snapshot
child_of s (words p) = child_at s p
child_of s _ = None

-- `hasChild(p)`: something exists at the child. (Reference, `RuleDataSnapshot.hasChild`.)
unfoldable pub has_child : Snapshot → Value → Option Bool
has_child s v = option_map exists_at (child_of s v)

-- one that takes a value. (Reference, RuleDataSnapshot methods.)
unfoldable pub snapshot_call_with : List ℕ → Snapshot → Value → Option Meaning
snapshot_call_with f s v =
    if bytes_eq (codes "child") f then option_map snapshot (child_of s v)
    else if bytes_eq (codes "hasChild") f then option_map (λ b. value (truth b)) (has_child s v)
    else None

-- all these children exist, each of them a lawful one
unfoldable pub have_children : Snapshot → List Value → Option Bool
have_children s [] = Some true
have_children s (v ∷ vs) = option_and_then (λ b. option_map (λ c. b && c) (have_children s vs)) (has_child s v)

-- one that takes a list of values: `hasChildren([..])`. (Reference, `RuleDataSnapshot.hasChildren`.)
unfoldable pub snapshot_call_listed : List ℕ → Snapshot → List Value → Option Value
snapshot_call_listed f s vs = if bytes_eq (codes "hasChildren") f then option_map truth (have_children s vs) else None

-- ---- all receivers

-- what a call is given: nothing, one value, two, a list of values, or what no method takes; None is an error
pub data Given : Type 0 where
  nothing : Given
  one : Option Value → Given
  two : Option Value → Option Value → Given
  listed : Option (List Value) → Given
  others : Given

-- a call with nothing
abbrev pub called_with_nothing : List ℕ → Meaning → Option Meaning
called_with_nothing f (snapshot s) = snapshot_call f s
called_with_nothing f _ = None

-- a call with a value: of a text, or of a snapshot
abbrev pub called_with : List ℕ → Meaning → Value → Option Meaning
called_with f (value v) w = option_map value (text_test f v w)
called_with f (snapshot s) w = snapshot_call_with f s w
called_with f _ w = None

-- a call with two values
abbrev pub called_with_two : List ℕ → Meaning → Value → Value → Option Meaning
called_with_two f (value v) w x = option_map value (text_change f v w x)
called_with_two f _ w x = None

-- a call with a list
abbrev pub called_with_list : List ℕ → Meaning → List Value → Option Meaning
called_with_list f (snapshot s) vs = option_map value (snapshot_call_listed f s vs)
called_with_list f _ vs = None

-- a call of a receiver, its arguments evaluated from left to right
abbrev pub call_of : List ℕ → Meaning → Given → Option Meaning
call_of f p nothing = called_with_nothing f p
call_of f p (one m) = option_and_then (called_with f p) m
call_of f p (two m n) = option_and_then (λ v. option_and_then (called_with_two f p v) n) m
call_of f p (listed ms) = option_and_then (called_with_list f p) ms
call_of f p others = None

-- a call, the receiver evaluated before its arguments
abbrev pub called : List ℕ → Option Meaning → Given → Option Meaning
called f m g = option_and_then (λ p. call_of f p g) m
