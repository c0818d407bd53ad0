-- What a file that a crash may have left is recovered to.
use Rattle.std.specs.Prelude.{◌≡◌, ◌<◌, ◌^◌, ℕ, List, ◌++◌, length}
use Rattle.std.specs.List.{AllByRecursion}
use Rattle.journal.specs.Format.{Group, AllFit, opening, entries_text, file_of}
use Rattle.journal.specs.Recovery.{Begins, IsFileOf}
use Rattle.journal.specs.Recovering.{IsNamedRightly, texts_of}
use Rattle.journal.specs.Keeping.{Keeps, chain_identifier}
use Rattle.journal.specs.declared.chain.Chain.{Chain}
use Rattle.rtdb_model.specs.declared.reply.Reply.{Reply}
use Rattle.rtdb_model.specs.State.{State}
use Rattle.rtdb_model.specs.Step.{Call, Run}
use Rattle.rtdb_laws.specs.Effects.{changing, without_listeners}
use Rattle.store.specs.declared.fault.RecoveryFault.{RecoveryFault}
use Rattle.store.specs.declared.fault.RecoveryFault.TheVariants.{File, Unfit, NoDatabase}
use Rattle.store.specs.Replay.{Stage, empty, Replays, LeadTo, AreEntriesOf}

-- these entries are those of these groups
pub record AreIn (entries : List (List ℕ)) (groups : List Group) : Type 0 where
  pub whole : entries_text entries ≡ texts_of groups
  pub small : AllByRecursion (λ entry. length entry < 10 ^ 8) entries

-- What was recovered of a file: the database that the entries of its groups lead to, and the text of its rules; the disk keeps those groups, all of them stored.
pub record IsRecoveredFrom {D : Type 0} (holds may_leave : D → List ℕ → Type 0) (file : List ℕ) (disk : D) (chain : Chain) (text : List ℕ) (state : State) : Type 0 where
  pub groups : List Group
  pub rest : List ℕ
  pub entries : List (List ℕ)
  pub read : IsFileOf (chain_identifier chain) groups rest file
  pub keeps : Keeps holds may_leave disk chain groups groups
  pub are_in : AreIn entries groups
  pub lead : LeadTo entries text state

-- The file begins with entries of which the last can't stand where it does: they lead nowhere.
pub record HasUnfitEntry (file : List ℕ) : Type 0 where
  pub identifier : List ℕ
  pub groups : List Group
  pub rest : List ℕ
  pub entries : List (List ℕ)
  pub same : file ≡ file_of identifier groups ++ rest
  pub fit : AllFit (opening identifier) groups
  pub first : Begins (entries_text entries) (texts_of groups)
  pub nowhere : (after : Stage) → Replays entries empty after → ⊥

-- The entries of the file lead to no database.
pub record HasNoDatabase (file : List ℕ) : Type 0 where
  pub identifier : List ℕ
  pub groups : List Group
  pub rest : List ℕ
  pub entries : List (List ℕ)
  pub read : IsFileOf identifier groups rest file
  pub are_in : AreIn entries groups
  pub none : (text : List ℕ) (state : State) → LeadTo entries text state → ⊥

-- the file has this fault, if it is one of the file
abbrev pub IsFaultOf : List ℕ → RecoveryFault → Type 0
IsFaultOf file (File error) = IsNamedRightly file error
IsFaultOf file (Unfit entry) = HasUnfitEntry file
IsFaultOf file NoDatabase = HasNoDatabase file

-- A history begins so: with these calls and replies, of whose entries these were kept, it leads to this database, in which no session listens to anything.
pub record IsBeginningOf (old : State) (calls : List Call) (replies : List Reply) (kept : List (List ℕ)) (state : State) : Type 0 where
  pub earlier : List Call
  pub later : List Call
  pub answered : List Reply
  pub unanswered : List Reply
  pub left : State
  pub calls_are : calls ≡ earlier ++ later
  pub replies_are : replies ≡ answered ++ unanswered
  pub run : Run old earlier answered left
  pub kept_are : AreEntriesOf kept (changing earlier answered)
  pub state_is : state ≡ without_listeners left
