-- What lies on the desk of a journal. No public clause names a word of these.
use Rattle.std.specs.Prelude.{◌≡◌, ℕ, ◌+◌, List, length, Vec, Some}
use Rattle.std.specs.Ordering.{nat_cmp}
use Rattle.std.specs.declared.alloc.Global.{Global}
use Rattle.std.specs.BTreeMap.{BTreeMap, get_by}
use Rattle.locked_server.specs.declared.entry.Entry.{Entry}
use Rattle.hall_journal.specs.Kept.{IsEntryAt}
use Rattle.hall_journal.specs.Working.{AreNext, texts}

-- the entries that have gathered are those of the calls behind the first so many, and the one with this number comes next
abbrev pub Gathers : List Entry → ℕ → List (Vec ℕ Global) → ℕ → Type 0
Gathers seen count gathered next = AreNext seen count (texts gathered) × (next ≡ count + length gathered + 1)

-- each of these entries stands at its number
abbrev pub AreAtTheirNumbers : List Entry → BTreeMap ℕ (Vec ℕ Global) → Type 0
AreAtTheirNumbers seen early = (number : ℕ) (entry : Vec ℕ Global) → get_by (nat_cmp number) early ≡ Some entry → IsEntryAt seen number entry.items
