-- What the `.read` rules on the way to a path look at.
use Rattle.std.specs.Prelude.{◌≡◌, ◌⊎◌, true, Some, option_and_then, ⊤}
use Rattle.tree_model.specs.Path.{Path, is_prefix}
use Rattle.tree_model.specs.PathMap.{get}
use Rattle.expr_types.specs.Checked.{Checked}
use Rattle.expr_types.specs.Scope.{scope_of}
use Rattle.expr_types.specs.declared.scope.Scope.{Scope}
use Rattle.expr_types.specs.declared.scope.Scope.TheVariants.{Request, Location, Database}
use Rattle.rules_reader.specs.Part.{Pattern}
use Rattle.rules_reader.specs.declared.kind.Kind.TheVariants.{Read}
use Rattle.rules_reader.specs.Book.{Book, stated_for}
use Rattle.rules_reader.specs.Place.{StandsAt}

-- this `.read` rule, of this pattern, stands at the place
pub record IsReadAt (book : Book) (place : Path) (pattern : Pattern) (rule : Checked) : Type 0 where
  pub stands : StandsAt book pattern place
  pub states : option_and_then (stated_for Read) (get book pattern) ≡ Some rule

-- a rule of this scope, which stands at the place `at`, looks at no data but what stands at the path `within` or below it. (This project's profile.)
abbrev pub LooksWithin : Path → Path → Scope → Type 0
LooksWithin within at Request = ⊤
LooksWithin within at Location = is_prefix within at ≡ true
LooksWithin within at Database = ⊥

-- a `.read` rule that stands at this place looks at what stands there
pub record LooksThere (book : Book) (place : Path) : Type 0 where
  pub pattern : Pattern
  pub rule : Checked
  pub is_read : IsReadAt book place pattern rule
  pub looks : scope_of rule.tree ≡ Location

-- The place is the path or above it; the `.read` rules at the path and above it look at no data but what stands at the place or below it; and it is the path itself, or one of them looks at what stands there. (This project's profile.)
pub record IsWatched (book : Book) (path place : Path) : Type 0 where
  pub above : is_prefix place path ≡ true
  pub within : (at : Path) (pattern : Pattern) (rule : Checked) → is_prefix at path ≡ true → IsReadAt book at pattern rule → LooksWithin place at (scope_of rule.tree)
  pub last : (place ≡ path) ⊎ LooksThere book place

-- a `.read` rule at the path or above it looks at the moment, or at what stands elsewhere
pub record LooksElsewhere (book : Book) (path : Path) : Type 0 where
  pub at : Path
  pub above : is_prefix at path ≡ true
  pub pattern : Pattern
  pub rule : Checked
  pub is_read : IsReadAt book at pattern rule
  pub looks : scope_of rule.tree ≡ Database
