-- Databases that files keep.
use Rattle.std.specs.Prelude.{ℕ, List}
use Rattle.journal.specs.Format.{Group}
use Rattle.journal.specs.Recovery.{IsFileOf}
use Rattle.journal.specs.Keeping.{Keeps}
use Rattle.journal.specs.declared.chain.Chain.{Chain}
use Rattle.rtdb_model.specs.State.{State}
use Rattle.store.specs.Replay.{LeadTo}
use Rattle.store.specs.Recovered.{AreIn}

-- The entries of the file's groups lead to this database, whose rules have this text; the rest stands behind the groups.
pub record HasDatabase (identifier rest text : List ℕ) (state : State) (file : List ℕ) : Type 0 where
  pub groups : List Group
  pub entries : List (List ℕ)
  pub read : IsFileOf identifier groups rest file
  pub are_in : AreIn entries groups
  pub lead : LeadTo entries text state

-- The disk keeps groups, all of them stored, whose entries lead to this database.
pub record KeepsDatabase {D : Type 0} (holds may_leave : D → List ℕ → Type 0) (disk : D) (chain : Chain) (text : List ℕ) (state : State) : Type 0 where
  pub groups : List Group
  pub entries : List (List ℕ)
  pub keeps : Keeps holds may_leave disk chain groups groups
  pub are_in : AreIn entries groups
  pub lead : LeadTo entries text state
