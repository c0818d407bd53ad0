-- A walk that asks what the `.read` rules look at.
use Rattle.std.specs.Prelude.{◌≡◌, ◌⊎◌, ℕ, ◌+◌, ◌≤◌, ◌++◌, ◌∷◌, length, ⊤}
use Rattle.tree_model.specs.Key.{Key}
use Rattle.tree_model.specs.Path.{Path}
use Rattle.expr_types.specs.Checked.{Checked}
use Rattle.expr_types.specs.Scope.{scope_of}
use Rattle.expr_types.specs.declared.scope.Scope.{Scope}
use Rattle.expr_types.specs.declared.scope.Scope.TheVariants.{Request, Location, Database}
use Rattle.rules_reader.specs.Part.{Pattern}
use Rattle.rules_reader.specs.Book.{Book}
use Rattle.judge.specs.Watching.{IsReadAt, LooksThere}

-- a rule of this scope at a place of so many keys looks at no data but what stands where the path has `count` keys, or further down
abbrev pub LooksBeyond : ℕ → ℕ → Scope → Type 0
LooksBeyond count keys Request = ⊤
LooksBeyond count keys Location = count ≤ keys
LooksBeyond count keys Database = ⊥

-- one of the rules on the way from `from` along the rest stands where the path has `count` keys, and looks at what stands there
pub record EndsThere (book : Book) (from rest : Path) (count : ℕ) : Type 0 where
  pub front : Path
  pub back : Path
  pub parts : rest ≡ front ++ back
  pub counted : count ≡ length from + length front
  pub looks : LooksThere book (from ++ front)

-- what a walk from `from` along the rest answers: how many keys the place has that is watched
pub record WatchedFrom (book : Book) (from rest : Path) (count : ℕ) : Type 0 where
  pub least : length from ≤ count
  pub most : count ≤ length from + length rest
  pub within : (front back : Path) (pattern : Pattern) (rule : Checked) → rest ≡ front ++ back → IsReadAt book (from ++ front) pattern rule → LooksBeyond count (length from + length front) (scope_of rule.tree)
  pub last : (count ≡ length from + length rest) ⊎ EndsThere book from rest count

-- the same of the rules properly below `from`
pub record WatchedBelow (book : Book) (from rest : Path) (count : ℕ) : Type 0 where
  pub least : length from ≤ count
  pub most : count ≤ length from + length rest
  pub within : (key : Key) (front back : Path) (pattern : Pattern) (rule : Checked) → rest ≡ key ∷ (front ++ back) → IsReadAt book (from ++ key ∷ front) pattern rule → LooksBeyond count (length from + length (key ∷ front)) (scope_of rule.tree)
  pub last : (count ≡ length from + length rest) ⊎ EndsThere book from rest count

-- a rule on the way from `from` along the rest looks elsewhere
pub record ElsewhereFrom (book : Book) (from rest : Path) : Type 0 where
  pub front : Path
  pub back : Path
  pub parts : rest ≡ front ++ back
  pub pattern : Pattern
  pub rule : Checked
  pub is_read : IsReadAt book (from ++ front) pattern rule
  pub looks : scope_of rule.tree ≡ Database
