-- What a crash leaves of a journal while groups are appended.
use Rattle.std.proofs.Common.{◌≡◌, ◌⊎◌, inl, inr, ℕ, ◌+◌, ◌≤◌, ◌<◌, List, [], ◌∷◌, ◌++◌, length, drop, refl, sym, ◌∙◌, ap, subst, arith}
use Rattle.std.proofs.lemmas.List.{append-nil, take_all, drop_all}
use Rattle.std.specs.List.{AllByRecursion}
use Rattle.disk.specs.Disk.{overwritten, Torn, ComesFrom, AtAnyMoment}
use Rattle.disk.proofs.Moments.{begins}
use Rattle.journal.specs.declared.chain.Chain.{Chain}
use Rattle.journal.specs.Format.{Group, Fits, AllFit, next, opening, file_of}
use Rattle.journal.specs.Recovery.{Begins, Survives}
use Rattle.journal.specs.Keeping.{Leads, Keeps, IsFull, link_of}
use Rattle.journal.specs.declared.limits.TheConstants.{MAX_GROUPS, MAX_FILE_BYTES}
use Rattle.journal.proofs.Chains.{fit-front, fit-push, end_of-append, number_is, place_of_file}
use Rattle.journal.proofs.Survival.{begins_further, survives, torn_keeps, no_shorter}

-- the file of what was stored is a front of that of all groups
pub stored_fits : (identifier : List ℕ) (chain : Chain) (stored appended : List Group) → Leads identifier chain stored appended → AllFit (opening identifier) stored
stored_fits identifier chain stored appended leads = fit-front (opening identifier) stored leads.front.0 (subst (AllFit (opening identifier)) leads.front.1 leads.fit)

-- a chain says how long its file is
pub len_is : (identifier : List ℕ) (chain : Chain) (stored appended : List Group) → Leads identifier chain stored appended → chain.len ≡ length (file_of identifier appended)
len_is identifier chain stored appended leads = ap (λ link. link.place) leads.link ∙ place_of_file identifier appended leads.sized

pub stored_is_short : (identifier : List ℕ) (chain : Chain) (stored appended : List Group) → Leads identifier chain stored appended → length (file_of identifier stored) ≤ chain.len
stored_is_short identifier chain stored appended leads =
    omega (arith, len_is identifier chain stored appended leads, no_shorter identifier leads.sized stored leads.front.0, ap (λ groups. length (file_of identifier groups)) leads.front.1)

-- a chain that has no room is that of a full file
pub full_file : (identifier : List ℕ) (chain : Chain) (stored appended : List Group) → Leads identifier chain stored appended → (MAX_GROUPS ≤ chain.number) ⊎ (MAX_FILE_BYTES ≤ chain.len) ⊎ (chain.len < chain.durable) → IsFull identifier appended
full_file identifier chain stored appended leads (inl number) = inl (omega (arith, number, ap (λ link. link.number) leads.link, number_is (opening identifier) appended))
full_file identifier chain stored appended leads (inr (inl len)) = inr (omega (arith, len, len_is identifier chain stored appended leads))
full_file identifier chain stored appended leads (inr (inr less)) = absurd (omega (arith, less, leads.durable, stored_is_short identifier chain stored appended leads))

all-push : {X : Type 0} (P : X → Type 0) (xs : List X) (x : X) → AllByRecursion P xs → P x → AllByRecursion P (xs ++ x ∷ [])
all-push P [] x all last = (last, tt)
all-push P (y ∷ xs) x all last = (all.0, all-push P xs x all.1 last)

-- one group more
pub leads_on : (identifier : List ℕ) (chain behind : Chain) (stored appended : List Group) (group : Group) → Leads identifier chain stored appended → Fits (link_of chain) group → link_of behind ≡ next (link_of chain) group
    → behind.durable ≡ chain.durable → group.durable ≤ length (file_of identifier stored) → Leads identifier behind stored (appended ++ group ∷ [])
leads_on identifier chain behind stored appended group leads fits link durable modest = record {
  sized = leads.sized;
  front = begins_further stored appended (appended ++ group ∷ []) leads.front (group ∷ [], refl);
  fit = fit-push (opening identifier) appended group leads.fit (subst (λ l. Fits l group) leads.link fits);
  link = link ∙ ap (λ l. next l group) leads.link ∙ sym (end_of-append (opening identifier) appended (group ∷ []));
  durable = durable ∙ leads.durable;
  modest = all-push (λ g. g.durable ≤ length (file_of identifier stored)) appended group leads.modest modest;
}

all-weaker : {X : Type 0} (P Q : X → Type 0) (xs : List X) → ((x : X) → P x → Q x) → AllByRecursion P xs → AllByRecursion Q xs
all-weaker P Q [] weaker all = tt
all-weaker P Q (x ∷ xs) weaker all = (weaker x all.0, all-weaker P Q xs weaker all.1)

-- all that was appended is stored
pub synced : (identifier : List ℕ) (chain behind : Chain) (stored appended : List Group) → Leads identifier chain stored appended → link_of behind ≡ link_of chain → behind.durable ≡ chain.len → Leads identifier behind appended appended
synced identifier chain behind stored appended leads link durable = record {
  sized = leads.sized;
  front = ([], sym (append-nil appended));
  fit = leads.fit;
  link = link ∙ leads.link;
  durable = durable ∙ len_is identifier chain stored appended leads;
  modest = all-weaker (λ g. g.durable ≤ length (file_of identifier stored)) (λ g. g.durable ≤ length (file_of identifier appended)) appended
      (λ g small. omega (arith, stored_is_short identifier chain stored appended leads, len_is identifier chain stored appended leads)) leads.modest;
}

-- bytes written at the end of a file stand behind it
pub written_behind : (file bytes : List ℕ) (at : ℕ) → at ≡ length file → overwritten at bytes file ≡ file ++ bytes
written_behind file bytes at end =
    ap (λ l. l ++ bytes ++ drop (at + length bytes) file) (take_all at file (omega arith)) ∙ ap (λ l. file ++ bytes ++ l) (drop_all (at + length bytes) file (omega arith)) ∙ append-nil (file ++ bytes)

module _ {D : Type 0} (holds may_leave : D → List ℕ → Type 0) (moment : D → ℕ) (left_since : D → ℕ → List ℕ → Type 0) (disk : D) (chain : Chain) (stored appended : List Group) (keeps : Keeps holds may_leave disk chain stored appended) where
  -- what begins with what was stored survives, whatever else was appended
  pub has_survived : (all : List Group) → Begins appended all → (left : List ℕ) → Begins (file_of chain.identifier stored) left → Survives chain.identifier stored all left
  has_survived all on left begins =
      survives chain.identifier keeps.leads.sized stored all left (stored_fits chain.identifier chain stored appended keeps.leads) (begins_further stored appended all keeps.leads.front on) begins

  -- before the first call
  pub so_far : (all : List Group) → Begins appended all → ((left : List ℕ) → left_since disk (moment disk) left → may_leave disk left) → AtAnyMoment moment left_since disk disk (Survives chain.identifier stored all)
  so_far all on just = begins moment left_since disk (Survives chain.identifier stored all) (λ left since. has_survived all on left (keeps.crash left (just left since)))

  -- a write at the end tears nothing that was stored
  pub torn_behind : (n : ℕ) (may_leave_now : List ℕ → Type 0) → ComesFrom (Torn chain.len n) (may_leave disk) may_leave_now → (left : List ℕ) → may_leave_now left → Begins (file_of chain.identifier stored) left
  torn_behind n may_leave_now crash left may =
      let from = crash left may in
      torn_keeps (file_of chain.identifier stored) from.0 left chain.len n (keeps.crash from.0 from.1) (stored_is_short chain.identifier chain stored appended keeps.leads) from.2
