-- The number of entries that are stored, as the book of marks has it. No public clause names a word of these.
use Rattle.std.specs.Prelude.{◌≡◌, ◌==◌, ℕ, true, List, [], ◌∷◌, length, MatchBool}
use Rattle.logbook.specs.Pages.{Cell, Step, View, Book, Named}
use Rattle.hall_journal.specs.declared.counter.Mark.{Mark}

-- the first word is the number of marks; the second is of no use
abbrev pub IsCount : List Cell → List Mark → Type 0
IsCount cells log = cells ≡ (length log, true) ∷ (0, true) ∷ []

-- the word of that book
abbrev pub word_of : Book → Named
word_of book = record { tracked = true; key = 0; book = book }

-- so many marks were seen
abbrev pub HasLooked : Step Mark → View Mark ℕ → ℕ → View Mark ℕ → Type 0
HasLooked s v found w = length w.0 ≡ found

-- there are as many marks as were to be; or another number was found, and was seen
abbrev pub HasAdded : Step Mark → View Mark ℕ → ℕ → View Mark ℕ → Type 0
HasAdded s v found w = MatchBool (found == s.old) (length w.0 ≡ s.new) (length w.0 ≡ found)
