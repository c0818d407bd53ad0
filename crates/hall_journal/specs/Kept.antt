-- What the journal of a hall keeps of its history. (This project's profile.)
use Rattle.std.specs.Prelude.{◌≡◌, ℕ, ◌+◌, ◌≤◌, List, [], ◌∷◌, ◌++◌, length, map, Option}
use Rattle.atomic_table.specs.Seated.{TableId}
use Rattle.logbook.specs.Pages.{Book}
use Rattle.rtdb_model.specs.State.{State}
use Rattle.rtdb_model.specs.Step.{Call}
use Rattle.locked_server.specs.declared.entry.Entry.{Entry}
use Rattle.locked_server.specs.Known.{Known, own}
use Rattle.journal.specs.Format.{Group}
use Rattle.journal.specs.Recovery.{Begins, Survives, HasStranger}
use Rattle.journal.specs.Keeping.{Keeps, chain_identifier}
use Rattle.journal.specs.declared.chain.Chain.{Chain}
use Rattle.entries.specs.Entry.{Means, call}
use Rattle.store.specs.Replay.{AreEntriesOf}
use Rattle.store.specs.Recovered.{AreIn, IsBeginningOf}
use Rattle.locked_server.specs.History.{call_of, reply_of, changed_in}

-- where a hall's journal began: the hall, the state in which it opens, the identifier of the file, and the moment of its disk; and by which name its entries are counted
pub record Began : Type 0 where
  pub hall : TableId
  pub opening : State
  pub identifier : List ℕ
  pub moment : ℕ
  pub book : Book

-- the seat is at that hall
abbrev pub IsAt : Began → Known → Type 0
IsAt began seat = (seat.hall ≡ began.hall) × (seat.opening ≡ began.opening)

-- so is it, and it has made no call
abbrev pub OnlyLooks : Began → Known → Type 0
OnlyLooks began seat = IsAt began seat × (own seat ≡ [])

-- the entry is that of a call of this history that has changed something: the call with this number, counted from 1
pub record IsEntryAt (seen : List Entry) (number : ℕ) (entry : List ℕ) : Type 0 where
  pub earlier : List Call
  pub made : Call
  pub later : List Call
  pub deployed : Option (List ℕ)
  pub changed : changed_in seen ≡ earlier ++ (made ∷ later)
  pub number_is : number ≡ length earlier + 1
  pub means : Means entry (call made deployed)

-- A crash left this file: what is recovered of it are these groups, which the journal began with, and then entries of the first of these calls, the stored ones among them.
pub record IsLeft (began : Began) (groups : List Group) (changed : List Call) (left : List ℕ) : Type 0 where
  pub stored : List Group
  pub appended : List Group
  pub kept : List (List ℕ)
  pub all : List (List ℕ)
  pub made : List Call
  pub kept_in : AreIn kept stored
  pub all_in : AreIn all appended
  pub entries : AreEntriesOf all made
  pub first : Begins made changed
  pub survives : Survives began.identifier (groups ++ stored) (groups ++ appended) left

-- The disk keeps these groups, which the journal began with, and then the entries of these calls, all of them stored; a crash at any moment since it began leaves entries of the first of them.
pub record KeepsCalls {D : Type 0} (holds may_leave : D → List ℕ → Type 0) (moment : D → ℕ) (left_since : D → ℕ → List ℕ → Type 0) (began : Began) (groups : List Group) (disk : D) (chain : Chain) (changed : List Call) : Type 0 where
  pub appended : List Group
  pub kept : List (List ℕ)
  pub identified : chain_identifier chain ≡ began.identifier
  pub keeps : Keeps holds may_leave disk chain (groups ++ appended) (groups ++ appended)
  pub kept_in : AreIn kept appended
  pub entries : AreEntriesOf kept changed
  pub later : began.moment ≤ moment disk
  pub since : (left : List ℕ) → left_since disk began.moment left → IsLeft began groups changed left

-- Behind these groups the disk keeps the entries of the calls that changed something in the history which a seat has seen, as many as this, the first ones.
pub record KeepsHistory {D : Type 0} (holds may_leave : D → List ℕ → Type 0) (moment : D → ℕ) (left_since : D → ℕ → List ℕ → Type 0) (began : Began) (groups : List Group) (disk : D) (chain : Chain) (seat : Known) (count : ℕ) : Type 0 where
  pub changed : List Call
  pub later : List Call
  pub here : IsAt began seat
  pub seen : changed_in seat.seen ≡ changed ++ later
  pub count_is : length changed ≡ count
  pub keeps : KeepsCalls holds may_leave moment left_since began groups disk chain changed

-- these entries, behind those that the file had before, are those of a beginning of a history, and lead to this database
pub record LeadsToBeginning (began : Began) (seen : List Entry) (before entries : List (List ℕ)) (state : State) : Type 0 where
  pub kept : List (List ℕ)
  pub entries_are : entries ≡ before ++ kept
  pub beginning : IsBeginningOf began.opening (map call_of seen) (map reply_of seen) kept state

-- by chance, where a crash tore, a whole group with a right sum stands which nobody wrote
pub record HasByChance (began : Began) (groups : List Group) (left : List ℕ) : Type 0 where
  pub stored : List Group
  pub appended : List Group
  pub stranger : HasStranger began.identifier (groups ++ stored) (groups ++ appended) left
