-- A checked expression: an expression that may stand in rules for a place.
use Rattle.std.specs.Prelude.{◌≡◌, ℕ, zero, suc, List, [], ◌∷◌, ◌++◌, refl}
use Rattle.std.specs.Coded.{Coded, code_by, coded×, coded_ℕ}
use Rattle.expr_parser.specs.Tree.{SyntaxTree, Trees, Arguments, Number, Text, True, False, Null, Variable, Capture, Group, Member, Call, Not, Negate, Operation, Choice, One, Listed, no_argument, argument, none, more}
use Rattle.expr_parser.specs.TreeCode.{tree_code}
use Rattle.expr_types.specs.declared.place.Place.{Place}
use Rattle.expr_types.specs.declared.place.Place.TheVariants.{ReadRule, WriteRule, ValidateRule}
use Rattle.expr_types.specs.HasSort.{HasValue}

-- the captures that an expression names, each without its $
abbrev mutual
  pub captures_in : SyntaxTree → List (List ℕ)
  captures_in (Number n) = []
  captures_in (Text s) = []
  captures_in True = []
  captures_in False = []
  captures_in Null = []
  captures_in (Variable f) = []
  captures_in (Capture f) = f ∷ []
  captures_in (Group x) = captures_in x
  captures_in (Member x f) = captures_in x
  captures_in (Call x f xs) = captures_in x ++ captures_given xs
  captures_in (Not x) = captures_in x
  captures_in (Negate x) = captures_in x
  captures_in (Operation op x y) = captures_in x ++ captures_in y
  captures_in (Choice c x y) = captures_in c ++ captures_in x ++ captures_in y

  pub captures_given : Arguments → List (List ℕ)
  captures_given no_argument = []
  captures_given (argument (One x) xs) = captures_in x ++ captures_given xs
  captures_given (argument (Listed xs) ys) = captures_listed xs ++ captures_given ys

  pub captures_listed : Trees → List (List ℕ)
  captures_listed none = []
  captures_listed (more x xs) = captures_in x ++ captures_listed xs

-- an expression, and the place that it was checked for
pub record Checked : Type 0 where
  pub tree : SyntaxTree
  pub place : Place

-- it may stand where a value is wanted in a rule for this place, below the captures that it names
abbrev pub IsChecked : Checked → Type 0
IsChecked c = HasValue c.place (captures_in c.tree) c.tree

-- ---- as data: what distinguishes two of them

-- how many kinds of rules stand before this one
abbrev pub place_number : Place → ℕ
place_number ReadRule = 0
place_number WriteRule = 1
place_number ValidateRule = 2

-- the kind of rule at a number
abbrev pub numbered_place : ℕ → Place
numbered_place zero = ReadRule
numbered_place (suc zero) = WriteRule
numbered_place (suc (suc n)) = ValidateRule

-- each kind comes back from its number
pub numbered_place-place_number : (p : Place) → numbered_place (place_number p) ≡ p
numbered_place-place_number ReadRule = refl
numbered_place-place_number WriteRule = refl
numbered_place-place_number ValidateRule = refl

-- a kind of rule is distinguished by its number
abbrev pub place_code : Coded Place
place_code = code_by ℕ coded_ℕ place_number numbered_place numbered_place-place_number

-- a rule's expression is distinguished by its tree and the kind of rule that it is
abbrev pub checked_code : Coded Checked
checked_code = code_by (SyntaxTree × Place) (coded× tree_code place_code) (λ c. (c.tree, c.place)) (λ t. record { tree = t.0; place = t.1 }) (λ _. refl)
