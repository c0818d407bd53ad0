-- Files that have a database, and disks that keep one.
use Rattle.std.proofs.Common.{◌≡◌, ◌⊎◌, inl, inr, ⊎_elim, ℕ, ◌+◌, ◌<◌, ◌^◌, List, [], ◌∷◌, ◌++◌, length, refl, sym, ◌∙◌, ap, subst, arith, length-append}
use Rattle.std.specs.List.{AllByRecursion}
use Rattle.std.proofs.lemmas.List.{append-nil}
use Rattle.std.proofs.lemmas.Grind.{flat_map-append}
use Rattle.disk.specs.Disk.{AtAnyMoment}
use Rattle.disk.proofs.Moments.{joined}
use Rattle.journal.specs.Format.{Group, opening, end_of, group_text, entry_text, file_of}
use Rattle.journal.specs.Recovery.{IsFileOf}
use Rattle.journal.specs.Found.{OnlyReads}
use Rattle.journal.specs.Recovering.{RecoversTheSame}
use Rattle.journal.specs.Keeping.{Leads, Keeps}
use Rattle.journal.specs.declared.chain.Chain.{Chain}
use Rattle.journal.specs.declared.chain.JournalError.{JournalError}
use Rattle.journal.specs.declared.chain.JournalError.TheVariants.{NoMemory, TooLong, Full, Failed}
use Rattle.journal.proofs.Chains.{opening_sized, end_sized}
use Rattle.journal.proofs.Texts.{length-group_text}
use Rattle.journal.proofs.Walking.{moments_of}
use Rattle.rtdb_model.specs.State.{State}
use Rattle.store.specs.Leaving.{HaveLeft}
use Rattle.store.specs.Recovered.{AreIn, IsRecoveredFrom}
use Rattle.store.specs.Appended.{SurvivesAppending, HasLongEntry, HasNoRoom}
use Rattle.store.specs.AppendingWorking.{AreAppended, DraftsDatabase}
use Rattle.store.specs.Kept.{HasDatabase, KeepsDatabase}
use Rattle.store.specs.Opened.{HasDepartures, SurvivesOpening, IsDepartureFault}
use Rattle.store.proofs.Crashes.{texts-append}
use Rattle.store.proofs.Adding.{weaker}
use Rattle.store.proofs.Gone.{lead_on}

-- ---- entries behind entries

all-append : {X : Type 0} (P : X → Type 0) (xs ys : List X) → AllByRecursion P xs → AllByRecursion P ys → AllByRecursion P (xs ++ ys)
all-append P [] ys one two = two
all-append P (x ∷ xs) ys one two = (one.0, all-append P xs ys one.1 two)

pub in-append : (xs ys : List (List ℕ)) (gs hs : List Group) → AreIn xs gs → AreIn ys hs → AreIn (xs ++ ys) (gs ++ hs)
in-append xs ys gs hs one two = record {
  whole = flat_map-append entry_text xs ys ∙ (λ i. one.whole i ++ two.whole i) ∙ sym (texts-append gs hs);
  small = all-append (λ entry. length entry < 10 ^ 8) xs ys one.small two.small;
}

-- ---- a whole file

nothing_behind : (link : _) (group : Group) (more : List ℕ) → length (group_text link group) ≡ 185 + length group.text → [] ≡ group_text link group ++ more → ⊥
nothing_behind link group more long is = omega (arith, ap length is, length-append (group_text link group) more, long)

-- a file that ends with its groups is that of these
pub whole_file : (identifier : List ℕ) (chain : Chain) (groups : List Group) → Leads identifier chain groups groups → IsFileOf identifier groups [] (file_of identifier groups)
whole_file identifier chain groups leads =
    let sized = end_sized (opening identifier) groups (opening_sized identifier leads.sized) in
    record {
      same = sym (append-nil (file_of identifier groups));
      fit = leads.fit;
      ends = λ group more fits is. nothing_behind (end_of (opening identifier) groups) group more (length-group_text (end_of (opening identifier) groups) sized.identifier sized.before group) is;
    }

-- ---- a file in the place of another

pub drafted_file : {D : Type 0} (draft : D → List ℕ → Type 0) (disk : D) (chain : Chain) (text : List ℕ) (state : State) (drafts : DraftsDatabase draft disk chain text state) (left : List ℕ)
    → left ≡ file_of chain.identifier drafts.drafted.groups → HasDatabase chain.identifier [] text state left
drafted_file draft disk chain text state drafts left is = record {
  groups = drafts.drafted.groups;
  entries = drafts.entries;
  read = subst (IsFileOf chain.identifier drafts.drafted.groups []) (sym is) (whole_file chain.identifier chain drafts.drafted.groups drafts.drafted.drafts.leads);
  are_in = drafts.drafted.are_in;
  lead = drafts.lead;
}

module _ {D : Type 0} (holds draft may_leave : D → List ℕ → Type 0) (moment : D → ℕ) (left_since : D → ℕ → List ℕ → Type 0) where
  -- up to the moment in which the new file takes its place the old one stays
  pub placed : (old between new : D) (identifier : List ℕ) (chain : Chain) (text : List ℕ) (state : State) → ((left : List ℕ) → left_since old (moment old) left → may_leave old left) → OnlyReads holds may_leave moment left_since old between → chain.identifier ≡ identifier
      → (drafts : DraftsDatabase draft between chain text state) → AtAnyMoment moment left_since between new (λ left. may_leave between left ⊎ (left ≡ file_of chain.identifier drafts.drafted.groups))
      → AtAnyMoment moment left_since old new (λ left. may_leave old left ⊎ HasDatabase identifier [] text state left)
  placed old between new identifier chain text state just reads named drafts at =
      joined moment left_since old between new (λ left. may_leave old left ⊎ HasDatabase identifier [] text state left)
      (moments_of holds may_leave moment left_since old between (λ left. may_leave old left ⊎ HasDatabase identifier [] text state left) reads just (λ left may. inl may))
      (weaker holds may_leave moment left_since between new (λ left. may_leave between left ⊎ (left ≡ file_of chain.identifier drafts.drafted.groups)) (λ left. may_leave old left ⊎ HasDatabase identifier [] text state left)
      (λ left. ⊎_elim (λ may. inl (reads.crash left may)) (λ is. inr (subst (λ (n : List ℕ). HasDatabase n [] text state left) named (drafted_file draft between chain text state drafts left is)))) at)

  pub kept_new : (between new : D) (chain : Chain) (text : List ℕ) (state : State) (drafts : DraftsDatabase draft between chain text state) → Keeps holds may_leave new chain drafts.drafted.groups drafts.drafted.groups → KeepsDatabase holds may_leave new chain text state
  kept_new between new chain text state drafts keeps = record { groups = drafts.drafted.groups; entries = drafts.entries; keeps = keeps; are_in = drafts.drafted.are_in; lead = drafts.lead }

-- ---- a file that is opened

module _ {D : Type 0} (holds may_leave : D → List ℕ → Type 0) (moment : D → ℕ) (left_since : D → ℕ → List ℕ → Type 0) (file : List ℕ) (disk : D) (chain : Chain) (text : List ℕ) (state : State) (found : IsRecoveredFrom holds may_leave file disk chain text state) where
  pub has_database : HasDatabase chain.identifier found.rest text state file
  has_database = record { groups = found.groups; entries = found.entries; read = found.read; are_in = found.are_in; lead = found.lead }

  pub has_departures : (after : State) (now : ℕ) (departures : List (List ℕ)) → HaveLeft state now departures after → HasDepartures file now departures
  has_departures after now departures left = record { identifier = chain.identifier; rest = found.rest; text = text; before = state; after = after; recovered = has_database; have_left = left }

  -- the entries of the departures stand behind what was recovered
  pub kept_on : (after : State) (now : ℕ) (departures : List (List ℕ)) (new : D) (behind : Chain) → HaveLeft state now departures after → AreAppended holds may_leave new behind found.groups departures → KeepsDatabase holds may_leave new behind text after
  kept_on after now departures new behind left appended = record {
    groups = found.groups ++ appended.more;
    entries = found.entries ++ departures;
    keeps = appended.keeps;
    are_in = in-append found.entries departures found.groups appended.more found.are_in appended.are_in;
    lead = lead_on found.entries departures text state after now found.lead left;
  }

  -- at each moment of an opening
  pub recovered_only : (old : D) (now : ℕ) → AtAnyMoment moment left_since old disk (RecoversTheSame file) → AtAnyMoment moment left_since old disk (SurvivesOpening file now)
  recovered_only old now at = weaker holds may_leave moment left_since old disk (RecoversTheSame file) (SurvivesOpening file now) (λ left same. inl same) at

  pub opened_on : (old new : D) (now : ℕ) (after : State) (departures : List (List ℕ)) → HaveLeft state now departures after → AtAnyMoment moment left_since old disk (RecoversTheSame file)
      → AtAnyMoment moment left_since disk new (SurvivesAppending chain.identifier found.groups departures) → AtAnyMoment moment left_since old new (SurvivesOpening file now)
  unfolding has_departures has_database
  opened_on old new now after departures have_left first second =
      joined moment left_since old disk new (SurvivesOpening file now) (recovered_only old now first)
      (weaker holds may_leave moment left_since disk new (SurvivesAppending chain.identifier found.groups departures) (SurvivesOpening file now)
      (λ left survives. inr (record { departures = departures; found = has_departures after now departures have_left; survives = survives })) second)

  pub departures_fault : (after : State) (now : ℕ) (departures : List (List ℕ)) (error : JournalError) → HaveLeft state now departures after → (error ≡ TooLong → HasLongEntry departures) → (error ≡ Full → HasNoRoom chain.identifier found.groups departures) → IsDepartureFault file now error
  unfolding has_departures has_database
  departures_fault after now departures NoMemory left long room = tt
  departures_fault after now departures Failed left long room = tt
  departures_fault after now departures TooLong left long room = (departures, has_departures after now departures left, long refl)
  departures_fault after now departures Full left long room = (departures, has_departures after now departures left, room refl)
