-- The first fault of an expression.
use Rattle.std.specs.Prelude.{◌≡◌, ℕ, List, [], ◌∷◌, ◌++◌, false, codes, if◌then◌else◌, ◌⊎◌, ⊤, Contains}
use Rattle.std.specs.List.{AllByRecursion}
use Rattle.expr_parser.specs.Tree.{SyntaxTree, Trees, Arguments, Variable, Capture, Group, Member, Call, Not, Negate, Operation, Choice, One, Listed, no_argument, argument, none, more}
use Rattle.expr_types.specs.declared.fault.TypeFault.{TypeFault}
use Rattle.expr_types.specs.declared.fault.TypeFault.TheVariants.{NotInProfile, TypeError, UnknownName, NoMemory}
use Rattle.expr_types.specs.declared.place.Place.{Place}
use Rattle.expr_types.specs.declared.sort.Sort.{Sort}
use Rattle.expr_types.specs.Names.{is_among, excluded_names, is_spelled}
use Rattle.expr_types.specs.HasSort.{HasSort, HasSomeSort, is_value}

-- the expressions of a list, from left to right
abbrev pub elements : Trees → List SyntaxTree
elements none = []
elements (more x xs) = x ∷ elements xs

-- the expressions that a call is given, those of a list among them, from left to right
abbrev pub given : Arguments → List SyntaxTree
given no_argument = []
given (argument (One x) xs) = x ∷ given xs
given (argument (Listed xs) ys) = elements xs ++ given ys

-- what is checked before the expression itself, in this order: a receiver before its arguments, and left before right (this project's profile)
abbrev pub parts : SyntaxTree → List SyntaxTree
parts (Group x) = x ∷ []
parts (Member x f) = x ∷ []
parts (Call x f xs) = x ∷ given xs
parts (Not x) = x ∷ []
parts (Negate x) = x ∷ []
parts (Operation op x y) = x ∷ y ∷ []
parts (Choice c x y) = c ∷ x ∷ y ∷ []
parts _ = []

-- what a use of the name is refused for, where it is no row: a name that the profile leaves out, a name that no row spells, or that no row has the name so: of another receiver, with other arguments, called or not called (this project's profile)
unfoldable pub use_fault : List ℕ → TypeFault
use_fault f = if is_among f excluded_names then NotInProfile f else if is_spelled f then TypeError else UnknownName f

-- what the expression itself is refused for, where its parts have sorts and it has none; a capture is named with its $ (this project's profile)
abbrev pub own_fault : SyntaxTree → TypeFault
own_fault (Variable f) = UnknownName f
own_fault (Capture f) = UnknownName (codes "$" ++ f)
own_fault (Member x f) = use_fault f
own_fault (Call x f xs) = use_fault f
own_fault _ = TypeError

-- The first fault: that of the first part that has one, or, where each part has a sort and the expression has none, its own. (This project's profile.)
pub data FirstFault (place : Place) (names : List (List ℕ)) : SyntaxTree → TypeFault → Type 0 where
  in_part : {x : SyntaxTree} (before : List SyntaxTree) (y : SyntaxTree) (after : List SyntaxTree) {e : TypeFault} → parts x ≡ before ++ y ∷ after → AllByRecursion (HasSomeSort place names) before → FirstFault place names y e → FirstFault place names x e
  of_own : {x : SyntaxTree} → AllByRecursion (HasSomeSort place names) (parts x) → ((s : Sort) → HasSort place names x s → ⊥) → FirstFault place names x (own_fault x)

-- why the expression of a rule is refused: for its first fault, or since it is no value as a whole (this project's profile)
abbrev pub IsRefused : Place → List (List ℕ) → SyntaxTree → TypeFault → Type 0
IsRefused place names x e = FirstFault place names x e ⊎ ((s : Sort) × HasSort place names x s × (is_value s ≡ false) × (e ≡ TypeError))

-- a fault that is about a name, for which alone memory is taken
abbrev pub HasName : TypeFault → Type 0
HasName (NotInProfile f) = ⊤
HasName TypeError = ⊥
HasName (UnknownName f) = ⊤
HasName NoMemory = ⊥

-- ---- where a name stands

-- the name stands in the expression: of a variable, of a capture with its $, or behind a dot
pub data StandsIn (f : List ℕ) : SyntaxTree → Type 0 where
  variable : StandsIn f (Variable f)
  capture : (g : List ℕ) → f ≡ codes "$" ++ g → StandsIn f (Capture g)
  member : {x : SyntaxTree} → StandsIn f (Member x f)
  call : {x : SyntaxTree} {xs : Arguments} → StandsIn f (Call x f xs)
  in_part : {x y : SyntaxTree} → Contains (parts x) y → StandsIn f y → StandsIn f x
