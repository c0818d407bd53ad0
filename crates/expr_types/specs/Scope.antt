-- What the meaning of an expression can depend on, beside who asks, the captures and the query.
use Rattle.std.specs.Prelude.{ℕ, List, codes, if◌then◌else◌, ◌||◌}
use Rattle.std.specs.Str.{bytes_eq}
use Rattle.expr_parser.specs.Tree.{SyntaxTree, Trees, Arguments, Argument, Number, Text, True, False, Null, Variable, Capture, Group, Member, Call, Not, Negate, Operation, Choice, One, Listed, no_argument, argument, none, more}
use Rattle.expr_types.specs.declared.scope.Scope.{Scope}
use Rattle.expr_types.specs.declared.scope.Scope.TheVariants.{Request, Location, Database}

-- the one of the two that takes in the other. (This project's profile.)
abbrev pub wider : Scope → Scope → Scope
wider Request s = s
wider Location Request = Location
wider Location Location = Location
wider Location Database = Database
wider Database s = Database

-- a variable: who asks and the query are of the request, and `data` is what stands at the location; `now`, `root`, `newData` and each other one may be anything. (Reference, variables: `auth`, `now`, `root`, `data`, `newData`, `query`.)
abbrev pub scope_of_variable : List ℕ → Scope
scope_of_variable f =
    if bytes_eq f (codes "auth") || bytes_eq f (codes "query") then Request
    else if bytes_eq f (codes "data") then Location
    else Database

abbrev mutual
  -- an expression: the widest of its parts; but a call of `parent` leaves the location. (This project's profile; Reference, `RuleDataSnapshot.parent`.)
  pub scope_of : SyntaxTree → Scope
  scope_of (Number n) = Request
  scope_of (Text s) = Request
  scope_of True = Request
  scope_of False = Request
  scope_of Null = Request
  scope_of (Variable f) = scope_of_variable f
  scope_of (Capture f) = Request
  scope_of (Group x) = scope_of x
  scope_of (Member x f) = scope_of x
  scope_of (Call x f xs) = if bytes_eq f (codes "parent") then Database else wider (scope_of x) (scope_given xs)
  scope_of (Not x) = scope_of x
  scope_of (Negate x) = scope_of x
  scope_of (Operation op x y) = wider (scope_of x) (scope_of y)
  scope_of (Choice c x y) = wider (scope_of c) (wider (scope_of x) (scope_of y))

  -- what a call is given: the widest of all. (This project's profile.)
  pub scope_given : Arguments → Scope
  scope_given no_argument = Request
  scope_given (argument x xs) = wider (scope_of_argument x) (scope_given xs)

  -- one argument. (This project's profile.)
  pub scope_of_argument : Argument → Scope
  scope_of_argument (One x) = scope_of x
  scope_of_argument (Listed xs) = scope_listed xs

  -- the elements of a list: the widest of all. (This project's profile.)
  pub scope_listed : Trees → Scope
  scope_listed none = Request
  scope_listed (more x xs) = wider (scope_of x) (scope_listed xs)
