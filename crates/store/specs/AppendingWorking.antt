-- What the parts of an opening and of a renewal make.
use Rattle.std.specs.Prelude.{ℕ, List, ◌++◌}
use Rattle.journal.specs.Format.{Group}
use Rattle.journal.specs.Keeping.{Keeps, Drafts}
use Rattle.journal.specs.declared.chain.Chain.{Chain}
use Rattle.rtdb_model.specs.State.{State}
use Rattle.store.specs.Replay.{LeadTo}
use Rattle.store.specs.Recovered.{AreIn}

-- the entries stand behind these groups, all of them stored
pub record AreAppended {D : Type 0} (holds may_leave : D → List ℕ → Type 0) (disk : D) (chain : Chain) (groups : List Group) (entries : List (List ℕ)) : Type 0 where
  pub more : List Group
  pub are_in : AreIn entries more
  pub keeps : Keeps holds may_leave disk chain (groups ++ more) (groups ++ more)

-- the new file has these entries
pub record AreDrafted {D : Type 0} (draft : D → List ℕ → Type 0) (disk : D) (chain : Chain) (entries : List (List ℕ)) : Type 0 where
  pub groups : List Group
  pub are_in : AreIn entries groups
  pub drafts : Drafts draft disk chain groups

-- the new file has entries that lead to this database, whose rules have this text
pub record DraftsDatabase {D : Type 0} (draft : D → List ℕ → Type 0) (disk : D) (chain : Chain) (text : List ℕ) (state : State) : Type 0 where
  pub entries : List (List ℕ)
  pub lead : LeadTo entries text state
  pub drafted : AreDrafted draft disk chain entries
