-- What a journal has, and what its disk makes of it.
use Rattle.std.specs.Prelude.{◌≡◌, ◌⊎◌, ℕ, ◌+◌, ◌≤◌, List, length, map, Vec}
use Rattle.std.specs.List.{AllByRecursion}
use Rattle.std.specs.declared.alloc.Global.{Global}
use Rattle.journal.specs.Format.{Group, Link, AllFit, opening, end_of, file_of, entries_text}
use Rattle.journal.specs.Recovery.{Begins}
use Rattle.journal.specs.declared.chain.Chain.{Chain}
use Rattle.journal.specs.declared.journal.Journal.{Journal}
use Rattle.journal.specs.declared.limits.TheConstants.{MAX_GROUPS, MAX_FILE_BYTES}

-- the disk of a journal
abbrev pub disk_of : {D : Type 0} → Journal D → D
disk_of journal = journal.disk

-- the chain of its groups
abbrev pub chain_of : {D : Type 0} → Journal D → Chain
chain_of journal = journal.chain

-- the identifier of its file
abbrev pub identifier_of : {D : Type 0} → Journal D → List ℕ
identifier_of journal = journal.chain.identifier

-- the identifier of a chain's file
abbrev pub chain_identifier : Chain → List ℕ
chain_identifier chain = chain.identifier

-- a group of these entries, which says how much was durable
abbrev pub group_of : ℕ → List (Vec ℕ Global) → Group
group_of durable entries = record { durable = durable; text = entries_text (map (λ entry. entry.items) entries) }

-- what ties the group behind a chain
abbrev pub link_of : Chain → Link
link_of chain = record { identifier = chain.identifier; number = chain.number; before = chain.before; place = chain.len }

-- the chain leads to the end of a file of these groups, of which the first were stored
pub record Leads (identifier : List ℕ) (chain : Chain) (stored appended : List Group) : Type 0 where
  pub sized : length identifier ≡ 16
  pub front : Begins stored appended
  pub fit : AllFit (opening identifier) appended
  pub link : link_of chain ≡ end_of (opening identifier) appended
  pub durable : chain.durable ≡ length (file_of identifier stored)
  -- none of them says that more was durable than is
  pub modest : AllByRecursion (λ group. group.durable ≤ length (file_of identifier stored)) appended

-- A read of the file returns all that was appended, and a crash at this moment leaves what was stored.
pub record Keeps {D : Type 0} (holds may_leave : D → List ℕ → Type 0) (disk : D) (chain : Chain) (stored appended : List Group) : Type 0 where
  pub leads : Leads chain.identifier chain stored appended
  pub file : holds disk (file_of chain.identifier appended)
  pub crash : (left : List ℕ) → may_leave disk left → Begins (file_of chain.identifier stored) left

-- the new file beside it has these groups
pub record Drafts {D : Type 0} (draft : D → List ℕ → Type 0) (disk : D) (chain : Chain) (groups : List Group) : Type 0 where
  pub leads : Leads chain.identifier chain groups groups
  pub file : draft disk (file_of chain.identifier groups)

-- a file of these groups has no room for another: the next one's number, or its place, is too large
abbrev pub IsFull : List ℕ → List Group → Type 0
IsFull identifier groups = (MAX_GROUPS ≤ length groups + 1) ⊎ (MAX_FILE_BYTES ≤ length (file_of identifier groups))
