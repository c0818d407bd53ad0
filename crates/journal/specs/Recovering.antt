-- What the parts of a recovery find.
use Rattle.std.specs.Prelude.{◌≡◌, ℕ, ◌+◌, ◌^◌, ◌<◌, List, [], ◌∷◌, ◌++◌, length, drop}
use Rattle.std.specs.List.{AllByRecursion, flat_map}
use Rattle.journal.specs.declared.chain.Chain.{Chain}
use Rattle.journal.specs.declared.recovery.RecoverError.{RecoverError}
use Rattle.journal.specs.declared.recovery.RecoverError.TheVariants.{NoMemory, Failed, Stopped, NotAJournal, Damaged, NoEntries}
use Rattle.journal.specs.Format.{Group, Link, Fits, AllFit, opening, end_of, next, group_text, file_of, entries_text}
use Rattle.journal.specs.Recovery.{Begins, IsFileOf, SaysMore, IsNoText}
use Rattle.journal.specs.Sinks.{HandsOn}
use Rattle.journal.specs.Keeping.{Keeps, link_of}

-- the texts of groups, one behind the other
abbrev pub texts_of : List Group → List ℕ
texts_of groups = flat_map (λ group. group.text) groups

-- What was recovered of a file: its groups, whose entries were handed over; the disk keeps those groups, all of them stored.
pub record IsRecovered {D S : Type 0} (holds may_leave : D → List ℕ → Type 0) (taken : S → List (List ℕ) → Type 0) (file : List ℕ) (disk : D) (chain : Chain) (old new : S) : Type 0 where
  pub groups : List Group
  pub rest : List ℕ
  pub entries : List (List ℕ)
  pub read : IsFileOf chain.identifier groups rest file
  pub keeps : Keeps holds may_leave disk chain groups groups
  pub handed_over : HandsOn taken taken old new entries
  pub whole : entries_text entries ≡ texts_of groups
  pub small : AllByRecursion (λ entry. length entry < 10 ^ 8) entries

-- The sink wanted no more: it has refused the last of these entries, with which the file's groups begin.
pub record HasStopped {S : Type 0} (taken refused : S → List (List ℕ) → Type 0) (file : List ℕ) (old new : S) : Type 0 where
  pub identifier : List ℕ
  pub groups : List Group
  pub rest : List ℕ
  pub entries : List (List ℕ)
  pub sized : length identifier ≡ 16
  pub same : file ≡ file_of identifier groups ++ rest
  pub fit : AllFit (opening identifier) groups
  pub first : Begins (entries_text entries) (texts_of groups)
  pub refused_last : HandsOn taken refused old new entries

-- of what is left the same is recovered as of the file, and it is refused only if the file is
abbrev pub RecoversTheSame : List ℕ → List ℕ → Type 0
RecoversTheSame file left = (identifier : List ℕ) (groups : List Group) (rest : List ℕ) → length identifier ≡ 16 → IsFileOf identifier groups rest file
    → (rest_left : List ℕ) × IsFileOf identifier groups rest_left left × (SaysMore identifier (length (file_of identifier groups)) rest_left → SaysMore identifier (length (file_of identifier groups)) rest)

-- behind its whole groups the file is damaged: something says more
pub record IsDamagedAt (file : List ℕ) (number place : ℕ) : Type 0 where
  pub identifier : List ℕ
  pub groups : List Group
  pub rest : List ℕ
  pub sized : length identifier ≡ 16
  pub read : IsFileOf identifier groups rest file
  pub number_is : number ≡ length groups + 1
  pub place_is : place ≡ length (file_of identifier groups)
  pub says_more : SaysMore identifier place rest

-- the group with this number is whole, and its text is none of entries
pub record HasNoEntriesAt (file : List ℕ) (number : ℕ) : Type 0 where
  pub identifier : List ℕ
  pub groups : List Group
  pub group : Group
  pub rest : List ℕ
  pub sized : length identifier ≡ 16
  pub same : file ≡ file_of identifier (groups ++ group ∷ []) ++ rest
  pub fit : AllFit (opening identifier) (groups ++ group ∷ [])
  pub number_is : number ≡ length groups + 1
  pub no_text : IsNoText group.text

-- an error that names a group names it rightly
abbrev pub IsNamedRightly : List ℕ → RecoverError → Type 0
IsNamedRightly file (Damaged number place) = IsDamagedAt file number place
IsNamedRightly file (NoEntries number) = HasNoEntriesAt file number
IsNamedRightly file NoMemory = Unit {0}
IsNamedRightly file Failed = Unit {0}
IsNamedRightly file Stopped = Unit {0}
IsNamedRightly file NotAJournal = Unit {0}

-- up to the end of this chain the file has these groups
pub record ReadSoFar (file : List ℕ) (chain : Chain) (groups : List Group) : Type 0 where
  pub rest : List ℕ
  pub sized : length chain.identifier ≡ 16
  pub same : file ≡ file_of chain.identifier groups ++ rest
  pub fit : AllFit (opening chain.identifier) groups
  pub link : link_of chain ≡ end_of (opening chain.identifier) groups

-- this text is that of the next group, and this chain leads behind it
pub record IsNext (file : List ℕ) (chain behind : Chain) (text : List ℕ) : Type 0 where
  pub group : Group
  pub more : List ℕ
  pub stands : drop chain.len file ≡ group_text (link_of chain) group ++ more
  pub fits : Fits (link_of chain) group
  pub text_is : text ≡ group.text
  pub link : link_of behind ≡ next (link_of chain) group

-- no next group stands there
abbrev pub HasNoNext : List ℕ → Chain → Type 0
HasNoNext file chain = (group : Group) (more : List ℕ) → Fits (link_of chain) group → drop chain.len file ≡ group_text (link_of chain) group ++ more → ⊥

-- the groups up to the end of the chain were handed over
pub record HandedOver {S : Type 0} (taken : S → List (List ℕ) → Type 0) (file : List ℕ) (chain : Chain) (old new : S) : Type 0 where
  pub groups : List Group
  pub entries : List (List ℕ)
  pub read : ReadSoFar file chain groups
  pub handed_over : HandsOn taken taken old new entries
  pub whole : entries_text entries ≡ texts_of groups
  pub small : AllByRecursion (λ entry. length entry < 10 ^ 8) entries

-- some whole group that begins at that place says that more than the end of the chain was durable
pub record PlaceSaysMore (file : List ℕ) (chain : Chain) (place : ℕ) : Type 0 where
  pub link : Link
  pub group : Group
  pub more : List ℕ
  pub same_file : link.identifier ≡ chain.identifier
  pub sized : length link.before ≡ 64
  pub there : link.place ≡ place
  pub fits : Fits link group
  pub stands : drop place file ≡ group_text link group ++ more
  pub says : chain.len < group.durable
