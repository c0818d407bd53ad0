-- What an expression may mean: a value, or for other sorts a snapshot, who asks, the claims, or a query.
use Rattle.std.specs.Prelude.{ℕ, ℤ, List, Bool, Option, Some, None, if◌then◌else◌}
use Rattle.std.specs.Option.{option_and_then}
use Rattle.tree_model.specs.Path.{Path}
use Rattle.tree_model.specs.Primitive as primitive
use Rattle.tree_model.specs.Primitive.{Primitive, is_whole}
use Rattle.tree_model.specs.Tree.{Tree}
use Rattle.expr_types.specs.declared.sort.Sort as sorts
use Rattle.expr_types.specs.declared.sort.Sort.{Sort}
use Rattle.evaluator.specs.Asked.{Asked}
use Rattle.evaluator.specs.Identity.{Identity, Claims}

-- A value: null, a boolean, a number, a text, the sentinel of a location with children, or a record, which is `auth` of somebody or its `token`. (Reference, literals; the sentinel and what a record is are this project's profile.)
pub data Value : Type 0 where
  null : Value
  truth : Bool → Value
  whole : ℤ → Value
  words : List ℕ → Value
  sentinel : Value
  a_record : Value

-- a whole tree, and the path of a location in it. (Reference, `RuleDataSnapshot`.)
abbrev pub Snapshot : Type 0
Snapshot = Tree × Path

-- What a part of an expression means, one constructor for each sort; `auth` and `auth.token` are None where nobody is signed in. (The sorts are this project's profile.)
pub data Meaning : Type 0 where
  value : Value → Meaning
  snapshot : Snapshot → Meaning
  auth : Option Identity → Meaning
  token : Option Claims → Meaning
  query : Asked → Meaning

-- the sort of such a part
abbrev pub sort_of_part : Meaning → Sort
sort_of_part (value v) = sorts.TheVariants.Value
sort_of_part (snapshot s) = sorts.TheVariants.Snapshot
sort_of_part (auth who) = sorts.TheVariants.Auth
sort_of_part (token claims) = sorts.TheVariants.Token
sort_of_part (query a) = sorts.TheVariants.Query

-- a record, or null where there is none
abbrev pub record_if : {A : Type 0} → Option A → Value
record_if None = null
record_if (Some who) = a_record

-- where a value is wanted: `auth` and `auth.token` are records, or null; a snapshot or a query is none. (Reference, `auth` variable: null where nobody is signed in.)
abbrev pub in_value : Meaning → Option Value
in_value (value v) = Some v
in_value (snapshot s) = None
in_value (auth who) = Some (record_if who)
in_value (token claims) = Some (record_if claims)
in_value (query a) = None

-- the value of what may be an error
abbrev pub as_value : Option Meaning → Option Value
as_value m = option_and_then in_value m

-- ---- values of what is stored and given

-- a primitive as a value
abbrev pub of_primitive : Primitive → Value
of_primitive (primitive.truth b) = truth b
of_primitive (primitive.whole z) = whole z
of_primitive (primitive.words s) = words s

-- what may be given, and null where it is not
abbrev pub or_null : Option Value → Value
or_null None = null
or_null (Some v) = v

-- a number within -(2^53 - 1) to 2^53 - 1, or an error. (This project's profile.)
abbrev pub in_range : ℤ → Option Value
in_range z = if is_whole z then Some (whole z) else None
