-- What becomes of entries that are put into a file, one after another.
use Rattle.std.specs.Prelude.{◌≡◌, ◌<◌, ℕ, List, ◌∷◌, ◌++◌, length}
use Rattle.journal.specs.Format.{Group, entry_text}
use Rattle.journal.specs.Recovery.{Survives}
use Rattle.journal.specs.Keeping.{IsFull}
use Rattle.journal.specs.declared.limits.TheConstants.{MAX_GROUP_BYTES}
use Rattle.store.specs.Recovered.{AreIn}

-- A crash left this, while entries were appended to a file of these groups: some of the first of the entries were.
pub record SurvivesAppending (identifier : List ℕ) (stored : List Group) (entries : List (List ℕ)) (left : List ℕ) : Type 0 where
  pub first : List (List ℕ)
  pub rest : List (List ℕ)
  pub appended : List Group
  pub entries_are : entries ≡ first ++ rest
  pub are_in : AreIn first appended
  pub survives : Survives identifier stored (stored ++ appended) left

-- one of these entries is too long for a group of its own
pub record HasLongEntry (entries : List (List ℕ)) : Type 0 where
  pub first : List (List ℕ)
  pub entry : List ℕ
  pub rest : List (List ℕ)
  pub entries_are : entries ≡ first ++ entry ∷ rest
  pub is_long : MAX_GROUP_BYTES < length (entry_text entry)

-- A file of these groups, and of some of the first of these entries behind them, has no room for the next.
pub record HasNoRoom (identifier : List ℕ) (groups : List Group) (entries : List (List ℕ)) : Type 0 where
  pub first : List (List ℕ)
  pub rest : List (List ℕ)
  pub more : List Group
  pub entries_are : entries ≡ first ++ rest
  pub are_in : AreIn first more
  pub is_full : IsFull identifier (groups ++ more)
