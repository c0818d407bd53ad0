-- What becomes of a kept database as it is opened: it is recovered, and the sessions that were open in it leave.
use Rattle.std.specs.Prelude.{◌≡◌, ◌⊎◌, ℕ, List}
use Rattle.std.specs.FinMap as map_of
use Rattle.journal.specs.Keeping.{chain_identifier}
use Rattle.journal.specs.Recovering.{RecoversTheSame}
use Rattle.journal.specs.declared.chain.Chain.{Chain}
use Rattle.journal.specs.declared.chain.JournalError.{JournalError}
use Rattle.journal.specs.declared.chain.JournalError.TheVariants as errors
use Rattle.rtdb_model.specs.State.{State}
use Rattle.store.specs.declared.fault.OpeningFault.{OpeningFault}
use Rattle.store.specs.declared.fault.OpeningFault.TheVariants.{Recovery, Departures}
use Rattle.store.specs.Leaving.{HaveLeft}
use Rattle.store.specs.Recovered.{IsFaultOf}
use Rattle.store.specs.Appended.{SurvivesAppending, HasLongEntry, HasNoRoom}
use Rattle.store.specs.Kept.{HasDatabase, KeepsDatabase}

-- These are the entries of the departures, at this moment, of the sessions that are open in the file's database.
pub record HasDepartures (file : List ℕ) (now : ℕ) (departures : List (List ℕ)) : Type 0 where
  pub identifier : List ℕ
  pub rest : List ℕ
  pub text : List ℕ
  pub before : State
  pub after : State
  pub recovered : HasDatabase identifier rest text before file
  pub have_left : HaveLeft before now departures after

-- The file's database had so many open sessions, which have left at this moment; the disk keeps what that led to.
pub record IsOpenedFrom {D : Type 0} (holds may_leave : D → List ℕ → Type 0) (file : List ℕ) (now sessions : ℕ) (disk : D) (chain : Chain) (text : List ℕ) (state : State) : Type 0 where
  pub rest : List ℕ
  pub before : State
  pub departures : List (List ℕ)
  pub recovered : HasDatabase (chain_identifier chain) rest text before file
  pub count : sessions ≡ map_of.len before.sessions
  pub have_left : HaveLeft before now departures state
  pub kept : KeepsDatabase holds may_leave disk chain text state

-- A crash left this while the departures were appended to the groups that were recovered of the file.
pub record SurvivesDepartures (file : List ℕ) (now : ℕ) (left : List ℕ) : Type 0 where
  pub departures : List (List ℕ)
  pub found : HasDepartures file now departures
  pub survives : SurvivesAppending found.identifier found.recovered.groups departures left

-- what a crash leaves meanwhile: the same is recovered of it as of the file, or that and some first departures
abbrev pub SurvivesOpening : List ℕ → ℕ → List ℕ → Type 0
SurvivesOpening file now left = RecoversTheSame file left ⊎ SurvivesDepartures file now left

-- for this reason not all departures were appended: one is too long for a group, or the file has no room for it
abbrev pub IsDepartureFault : List ℕ → ℕ → JournalError → Type 0
IsDepartureFault file now errors.TooLong = (departures : List (List ℕ)) × HasDepartures file now departures × HasLongEntry departures
IsDepartureFault file now errors.Full = (departures : List (List ℕ)) × (found : HasDepartures file now departures) × HasNoRoom found.identifier found.recovered.groups departures
IsDepartureFault file now errors.NoMemory = Unit {0}
IsDepartureFault file now errors.Failed = Unit {0}

-- the file has this fault, or a database whose departures do
abbrev pub IsOpeningFaultOf : List ℕ → ℕ → OpeningFault → Type 0
IsOpeningFaultOf file now (Recovery fault) = IsFaultOf file fault
IsOpeningFaultOf file now (Departures error) = IsDepartureFault file now error
