-- What a `.validate` asks for of its own location, by its syntax alone.
use Rattle.std.specs.Prelude.{◌≡◌, ◌≢◌, ℕ, ◌==◌, ◌&&◌, ◌||◌, List, codes, Bool, true, false, not, Option, Some, None}
use Rattle.std.specs.List.{list_any}
use Rattle.std.specs.Str.{bytes_eq}
use Rattle.expr_tokens.specs.declared.operator.Operator.{Operator}
use Rattle.expr_tokens.specs.declared.operator.Operator.TheVariants.{And}
use Rattle.expr_parser.specs.Tree.{SyntaxTree, Trees, Arguments, Argument, Text, Variable, Group, Call, Operation, One, Listed, no_argument, argument, none, more}
use Rattle.lint.specs.declared.finding.Demand.{Demand}
use Rattle.lint.specs.declared.finding.Demand.TheVariants.{IsString, IsNumber, IsBoolean, HasChildren}

-- the operator `&&`
abbrev pub is_and : Operator → Bool
is_and And = true
is_and _ = false

-- the variable `newData`: the location of the rule, in the tree as it would be. (Reference, variables: `newData`.)
abbrev pub is_new_data : SyntaxTree → Bool
is_new_data (Variable f) = bytes_eq f (codes "newData")
is_new_data _ = false

-- ---- what a call is given

-- the text that an expression literally is
abbrev pub text_in : SyntaxTree → Option (List ℕ)
text_in (Text s) = Some s
text_in _ = None

-- it is a text that passes a test
abbrev pub is_such : (List ℕ → Bool) → Option (List ℕ) → Bool
is_such test None = false
is_such test (Some s) = test s

-- one of the elements is a text that passes a test
abbrev pub lists_such : (List ℕ → Bool) → Trees → Bool
lists_such test none = false
lists_such test (more x xs) = is_such test (text_in x) || lists_such test xs

-- a call of this name with this argument asks for what stands at a text that passes a test: `hasChild(s)`, or `hasChildren([.., s, ..])`. (Reference, RuleDataSnapshot methods.)
abbrev pub asks_by_one : (List ℕ → Bool) → List ℕ → Argument → Bool
asks_by_one test f (One x) = bytes_eq f (codes "hasChild") && is_such test (text_in x)
asks_by_one test f (Listed xs) = bytes_eq f (codes "hasChildren") && lists_such test xs

-- the same of a call with these arguments, by the first of them
abbrev pub asks_at : (List ℕ → Bool) → List ℕ → Arguments → Bool
asks_at test f no_argument = false
asks_at test f (argument x xs) = asks_by_one test f x

-- the path of this text has a key at least: empty pieces between slashes count for nothing. (This project's profile.)
abbrev pub leads_below : List ℕ → Bool
leads_below s = list_any (λ b. not (b == 47)) s

-- the call asks for children: `hasChildren()`, or for what stands at a path below. (Reference, RuleDataSnapshot methods.)
abbrev pub asks_below : List ℕ → Arguments → Bool
asks_below f no_argument = bytes_eq f (codes "hasChildren")
asks_below f (argument x xs) = asks_by_one leads_below f x

-- a call of this name makes the demand of its receiver. (Reference, RuleDataSnapshot methods: `isString`, `isNumber`, `isBoolean`, `hasChildren`, `hasChild`.)
abbrev pub is_demand : Demand → List ℕ → Arguments → Bool
is_demand IsString f xs = bytes_eq f (codes "isString")
is_demand IsNumber f xs = bytes_eq f (codes "isNumber")
is_demand IsBoolean f xs = bytes_eq f (codes "isBoolean")
is_demand HasChildren f xs = asks_below f xs

-- ---- what an expression asks for

-- the expression is true only where such a call of `newData` is: it is the call, or a side of an `&&` is or asks for it, also in parentheses. (Reference, `&&` operator.)
abbrev pub asks_by : (List ℕ → Arguments → Bool) → SyntaxTree → Bool
asks_by call (Group x) = asks_by call x
asks_by call (Operation op x y) = is_and op && (asks_by call x || asks_by call y)
asks_by call (Call x f xs) = is_new_data x && call f xs
asks_by call _ = false

-- the expression is true only where the demand is met at the location of its rule
abbrev pub asks : Demand → SyntaxTree → Bool
asks demand = asks_by (is_demand demand)

-- the expression is true only where the location of its rule has a child of this name
abbrev pub asks_child : List ℕ → SyntaxTree → Bool
asks_child child = asks_by (asks_at (λ s. bytes_eq s child))

-- it asks for two of them, and a location is a text, a number or a boolean, or has children, and never two of these. (Reference, RuleDataSnapshot methods; guide "Structure Your Database".)
pub record AsksForTwo (x : SyntaxTree) (one other : Demand) : Type 0 where
  pub first : asks one x ≡ true
  pub second : asks other x ≡ true
  pub apart : one ≢ other
