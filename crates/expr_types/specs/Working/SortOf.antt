-- The sort of an expression or its first fault, as a function.
use Rattle.std.specs.Prelude.{ℕ, List, ◌++◌, Bool, true, false, ◌&&◌, Result, Ok, Err, Option, Some, None, codes, if◌then◌else◌}
use Rattle.std.specs.Str.{bytes_eq}
use Rattle.expr_parser.specs.Tree.{SyntaxTree, Trees, Arguments, Argument, Number, Text, True, False, Null, Variable, Capture, Group, Member, Call, Not, Negate, Operation, Choice, One, Listed, no_argument, argument, none, more}
use Rattle.expr_types.specs.declared.fault.TypeFault.{TypeFault}
use Rattle.expr_types.specs.declared.fault.TypeFault.TheVariants.{TypeError, UnknownName}
use Rattle.expr_types.specs.declared.place.Place.{Place}
use Rattle.expr_types.specs.declared.place.Place.TheVariants.{ReadRule, WriteRule, ValidateRule}
use Rattle.expr_types.specs.declared.sort.Sort.{Sort}
use Rattle.expr_types.specs.declared.sort.Sort.TheVariants.{Value, Snapshot, Auth, Token, Query}
use Rattle.expr_types.specs.declared.sort.Given.{Given}
use Rattle.expr_types.specs.declared.sort.Given.TheVariants.{Nothing, OneValue, TwoValues, OneList, Other}
use Rattle.expr_types.specs.Names.{is_among, auth_names, query_names, text_tests, snapshot_tests}
use Rattle.expr_types.specs.HasSort.{is_value}
use Rattle.expr_types.specs.Faults.{use_fault}

infixl 10 ◌>>=◌
-- what was found is worked on, and a fault stays
abbrev pub ◌>>=◌ : {A B E : Type 0} → Result A E → (A → Result B E) → Result B E
(Ok x) >>= k = k x
(Err e) >>= k = Err e

-- a `.read` rule, which alone sees queries
abbrev pub is_read : Place → Bool
is_read ReadRule = true
is_read WriteRule = false
is_read ValidateRule = false

-- ---- the rows

-- the sort of a variable, if it is one of the six and is there in such a rule
unfoldable pub variable_sort : Bool → List ℕ → Option Sort
variable_sort reads f =
    if bytes_eq f (codes "now") then Some Value else
    if bytes_eq f (codes "auth") then Some Auth else
    if bytes_eq f (codes "root") then Some Snapshot else
    if bytes_eq f (codes "data") then Some Snapshot else
    if bytes_eq f (codes "newData") then (if reads then None else Some Snapshot) else
    if bytes_eq f (codes "query") then (if reads then Some Query else None) else
    None

-- what a member of this name is, where that is a row
unfoldable pub member_sort : Sort → List ℕ → Option Sort
member_sort Value f = if bytes_eq f (codes "length") then Some Value else None
member_sort Snapshot f = None
member_sort Auth f = if is_among f auth_names then Some Value else if bytes_eq f (codes "token") then Some Token else None
member_sort Token f = Some Value
member_sort Query f = if is_among f query_names then Some Value else None

-- what a call of this name gives, where that is a row
unfoldable pub call_sort : Sort → List ℕ → Given → Option Sort
call_sort Value f OneValue = if is_among f text_tests then Some Value else None
call_sort Value f TwoValues = if bytes_eq f (codes "replace") then Some Value else None
call_sort Snapshot f Nothing = if is_among f snapshot_tests then Some Value else if bytes_eq f (codes "parent") then Some Snapshot else None
call_sort Snapshot f OneValue = if bytes_eq f (codes "hasChild") then Some Value else if bytes_eq f (codes "child") then Some Snapshot else None
call_sort Snapshot f OneList = if bytes_eq f (codes "hasChildren") then Some Value else None
call_sort _ f _ = None

-- what a row gives, or else the fault
abbrev pub or_fault : Option Sort → TypeFault → Result Sort TypeFault
or_fault (Some s) e = Ok s
or_fault None e = Err e

-- a value, where all that it is made of are values
abbrev pub value_if : Bool → Result Sort TypeFault
value_if true = Ok Value
value_if false = Err TypeError

-- ---- what a call is given

-- what is given, with one value more
abbrev pub with_value : Given → Given
with_value Nothing = OneValue
with_value OneValue = TwoValues
with_value TwoValues = Other
with_value OneList = Other
with_value Other = Other

-- what is given, with one list of values more
abbrev pub with_list : Given → Given
with_list Nothing = OneList
with_list OneValue = Other
with_list TwoValues = Other
with_list OneList = Other
with_list Other = Other

-- ---- the whole

abbrev mutual
  pub sort_of : Place → List (List ℕ) → SyntaxTree → Result Sort TypeFault
  sort_of p ns (Number n) = Ok Value
  sort_of p ns (Text s) = Ok Value
  sort_of p ns True = Ok Value
  sort_of p ns False = Ok Value
  sort_of p ns Null = Ok Value
  sort_of p ns (Variable f) = or_fault (variable_sort (is_read p) f) (UnknownName f)
  sort_of p ns (Capture f) = if is_among f ns then Ok Value else Err (UnknownName (codes "$" ++ f))
  sort_of p ns (Group x) = sort_of p ns x
  sort_of p ns (Member x f) = sort_of p ns x >>= λ s. or_fault (member_sort s f) (use_fault f)
  sort_of p ns (Call x f xs) = sort_of p ns x >>= λ s. given_of p ns Nothing xs >>= λ g. or_fault (call_sort s f g) (use_fault f)
  sort_of p ns (Not x) = sort_of p ns x >>= λ s. value_if (is_value s)
  sort_of p ns (Negate x) = sort_of p ns x >>= λ s. value_if (is_value s)
  sort_of p ns (Operation op x y) = sort_of p ns x >>= λ r. sort_of p ns y >>= λ s. value_if (is_value r && is_value s)
  sort_of p ns (Choice c x y) = sort_of p ns c >>= λ q. sort_of p ns x >>= λ r. sort_of p ns y >>= λ s. value_if (is_value q && is_value r && is_value s)

  -- what is given in all, where this was given before
  pub given_of : Place → List (List ℕ) → Given → Arguments → Result Given TypeFault
  given_of p ns g no_argument = Ok g
  given_of p ns g (argument x xs) = with_argument p ns g x >>= λ h. given_of p ns h xs

  pub with_argument : Place → List (List ℕ) → Given → Argument → Result Given TypeFault
  with_argument p ns g (One x) = sort_of p ns x >>= λ s. Ok (if is_value s then with_value g else Other)
  with_argument p ns g (Listed xs) = are_values p ns true xs >>= λ all. Ok (if all then with_list g else Other)

  -- whether these are values too, where those before are or are not
  pub are_values : Place → List (List ℕ) → Bool → Trees → Result Bool TypeFault
  are_values p ns all none = Ok all
  are_values p ns all (more x xs) = sort_of p ns x >>= λ s. are_values p ns (all && is_value s) xs
