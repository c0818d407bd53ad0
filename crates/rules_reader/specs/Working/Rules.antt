-- What holds of the root of a rules file.
use Rattle.std.specs.Prelude.{◌≡◌, ℕ, [], true, length}
use Rattle.std.specs.FinMap as map_of
use Rattle.rules_reader.specs.Book.{rules}
use Rattle.rules_reader.specs.Place.{HasOneCapture, HasNamesOnce}
use Rattle.rules_reader.specs.Node.{Point}

-- the root of a file with so many rules: it stands at the empty pattern, its own object is listed, and in each object at most one part is a capture
pub record IsRoot (root : Point) (count : ℕ) : Type 0 where
  pub at : root.at ≡ []
  pub listed : map_of.contains_key root.book [] ≡ true
  pub one : HasOneCapture root.book
  pub once : HasNamesOnce root.book
  pub counted : count ≡ length (rules root.book)
