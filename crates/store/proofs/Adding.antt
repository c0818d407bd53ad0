-- Entries that are put into a file, each as a group of its own.
use Rattle.std.proofs.Common.{◌≡◌, ◌⊎◌, inl, inr, ⊎_elim, ℕ, ◌+◌, ◌<◌, ◌≤◌, ◌^◌, List, [], ◌∷◌, ◌++◌, length, take, drop, Vec, Global, refl, sym, ◌∙◌, ap, subst, arith, append_assoc, take-append-drop}
use Rattle.std.proofs.lemmas.List.{append-nil, map-append}
use Rattle.disk.specs.Disk.{AtAnyMoment}
use Rattle.disk.proofs.Moments.{begins, joined}
use Rattle.journal.specs.Format.{Group, AllFit, opening, entry_text, entries_text}
use Rattle.journal.specs.Recovery.{Survives}
use Rattle.journal.specs.Recovering.{texts_of}
use Rattle.journal.specs.Keeping.{Keeps, Drafts}
use Rattle.journal.specs.declared.chain.Chain.{Chain}
use Rattle.journal.specs.declared.chain.JournalError.{JournalError}
use Rattle.journal.specs.declared.chain.JournalError.TheVariants.{NoMemory, TooLong, Full, Failed}
use Rattle.journal.specs.declared.limits.TheConstants.{MAX_GROUP_BYTES}
use Rattle.journal.proofs.Chains.{fit-back}
use Rattle.journal.proofs.Entries.{has_entry, entries-push, small-push}
use Rattle.journal.proofs.Surviving.{has_survived}
use Rattle.store.specs.Recovered.{AreIn}
use Rattle.store.specs.Appended.{SurvivesAppending, HasLongEntry}
use Rattle.store.specs.AppendingWorking.{AreDrafted}
use Rattle.store.proofs.Crashes.{texts-append}
use Rattle.store.proofs.Steps.{texts}

-- ---- one entry more

-- an entry that has room in a group has a length of eight digits
short : (entry : List ℕ) → length (entry_text entry) ≤ MAX_GROUP_BYTES → length entry < 10 ^ 8
short entry fits = let long = (has_entry (entry_text entry) entry [] (sym (append-nil (entry_text entry)))).long in omega (arith, long, fits)

pub none_in : AreIn [] []
none_in = record { whole = refl; small = tt }

pub one_in : (entries : List (List ℕ)) (entry : List ℕ) (groups : List Group) (group : Group) → AreIn entries groups → group.text ≡ entries_text (entry ∷ []) → length group.text ≤ MAX_GROUP_BYTES
    → AreIn (entries ++ entry ∷ []) (groups ++ group ∷ [])
one_in entries entry groups group are text fits =
    let is : group.text ≡ entry_text entry = text ∙ append-nil (entry_text entry) in
    record {
      whole = entries-push entries entry ∙ (λ i. are.whole i ++ (sym is) i) ∙ ap (λ l. texts_of groups ++ l) (sym (append-nil group.text)) ∙ sym (texts-append groups (group ∷ []));
      small = small-push entries entry are.small (short entry (subst (λ t. length t ≤ MAX_GROUP_BYTES) is fits));
    }

-- the last group of a file is no longer than one may be
pub last_fits : (identifier : List ℕ) (groups : List Group) (group : Group) → AllFit (opening identifier) (groups ++ group ∷ []) → length group.text ≤ MAX_GROUP_BYTES
last_fits identifier groups group fit = (fit-back (opening identifier) groups (group ∷ []) fit).0.text

-- the entries up to one, that one, and those behind it
pub first_of : (entries : List (Vec ℕ Global)) (i : ℕ) → texts entries ≡ texts (take i entries) ++ texts (drop i entries)
first_of entries i = ap texts (sym (take-append-drop i entries)) ∙ map-append (λ (entry : Vec ℕ Global). entry.items) (take i entries) (drop i entries)

pub next_of : (entries : List (Vec ℕ Global)) (i : ℕ) (entry : Vec ℕ Global) → take (i + 1) entries ≡ take i entries ++ entry ∷ [] → texts (take (i + 1) entries) ≡ texts (take i entries) ++ entry.items ∷ []
next_of entries i entry is = ap texts is ∙ map-append (λ (one : Vec ℕ Global). one.items) (take i entries) (entry ∷ [])

pub long_at : (entries : List (Vec ℕ Global)) (i : ℕ) (entry : Vec ℕ Global) → take (i + 1) entries ≡ take i entries ++ entry ∷ [] → MAX_GROUP_BYTES < length (entries_text (entry.items ∷ [])) → HasLongEntry (texts entries)
long_at entries i entry is long = record {
  first = texts (take i entries);
  entry = entry.items;
  rest = texts (drop (i + 1) entries);
  entries_are = first_of entries (i + 1) ∙ ap (λ l. l ++ texts (drop (i + 1) entries)) (next_of entries i entry is) ∙ append_assoc (texts (take i entries)) (entry.items ∷ []) (texts (drop (i + 1) entries));
  is_long = subst (λ t. MAX_GROUP_BYTES < length t) (append-nil (entry_text entry.items)) long;
}

-- ---- behind groups that were stored

module _ {D : Type 0} (holds may_leave : D → List ℕ → Type 0) (moment : D → ℕ) (left_since : D → ℕ → List ℕ → Type 0) where
  -- what is left at each moment has something weaker
  pub weaker : (old new : D) (P Q : List ℕ → Type 0) → ((left : List ℕ) → P left → Q left) → AtAnyMoment moment left_since old new P → AtAnyMoment moment left_since old new Q
  weaker old new P Q so at = record {
    later = at.later;
    each = λ left since. so left (at.each left since);
    earlier = λ t left le since. ⊎_elim (λ was. inl was) (λ has. inr (so left has)) (at.earlier t left le since);
  }

  -- the first of these entries were appended so far
  pub record SoFar (old new : D) (identifier : List ℕ) (chain : Chain) (groups : List Group) (entries first : List (List ℕ)) : Type 0 where
    pub more : List Group
    pub are_in : AreIn first more
    pub keeps : Keeps holds may_leave new chain groups (groups ++ more)
    pub moments : AtAnyMoment moment left_since old new (SurvivesAppending identifier groups entries)

  -- none was
  pub so_far_none : (old : D) (chain : Chain) (groups : List Group) (entries : List (List ℕ)) → ((left : List ℕ) → left_since old (moment old) left → may_leave old left)
      → Keeps holds may_leave old chain groups groups → SoFar old old chain.identifier chain groups entries []
  so_far_none old chain groups entries just keeps = record {
    more = [];
    are_in = none_in;
    keeps = subst (Keeps holds may_leave old chain groups) (sym (append-nil groups)) keeps;
    moments = begins moment left_since old (SurvivesAppending chain.identifier groups entries) (λ left since. record {
      first = [];
      rest = entries;
      appended = [];
      entries_are = refl;
      are_in = none_in;
      survives = has_survived holds may_leave moment left_since old chain groups groups keeps (groups ++ []) ([], refl) left (keeps.crash left (just left since));
    });
  }

  -- one more is written
  pub so_far_one : (old between new : D) (identifier : List ℕ) (chain behind : Chain) (groups : List Group) (entries first rest : List (List ℕ)) (entry : List ℕ) (group : Group) (so_far : SoFar old between identifier chain groups entries first)
      → group.text ≡ entries_text (entry ∷ []) → entries ≡ (first ++ entry ∷ []) ++ rest → Keeps holds may_leave new behind groups ((groups ++ so_far.more) ++ group ∷ [])
      → AtAnyMoment moment left_since between new (Survives identifier groups ((groups ++ so_far.more) ++ group ∷ [])) → SoFar old new identifier behind groups entries (first ++ entry ∷ [])
  so_far_one old between new identifier chain behind groups entries first rest entry group so_far text are keeps at =
      let more = so_far.more in
      let grouped : (groups ++ more) ++ group ∷ [] ≡ groups ++ (more ++ group ∷ []) = append_assoc groups more (group ∷ []) in
      let fits = last_fits behind.identifier (groups ++ more) group keeps.leads.fit in
      let are_in = one_in first entry more group so_far.are_in text fits in
      record {
        more = more ++ group ∷ [];
        are_in = are_in;
        keeps = subst (Keeps holds may_leave new behind groups) grouped keeps;
        moments = joined moment left_since old between new (SurvivesAppending identifier groups entries) so_far.moments
            (weaker between new (Survives identifier groups ((groups ++ more) ++ group ∷ [])) (SurvivesAppending identifier groups entries)
            (λ left survives. record { first = first ++ entry ∷ []; rest = rest; appended = more ++ group ∷ []; entries_are = are; are_in = are_in; survives = subst (λ gs. Survives identifier groups gs left) grouped survives }) at);
      }

  -- or it is not: then the disk stays, or the entry is one that may have been
  pub so_far_torn : (old between new : D) (identifier : List ℕ) (chain : Chain) (groups : List Group) (entries first rest : List (List ℕ)) (entry : List ℕ) (group : Group) (so_far : SoFar old between identifier chain groups entries first)
      → group.text ≡ entries_text (entry ∷ []) → entries ≡ (first ++ entry ∷ []) ++ rest → (new ≡ between) ⊎ (length group.text ≤ MAX_GROUP_BYTES)
      → AtAnyMoment moment left_since between new (Survives identifier groups ((groups ++ so_far.more) ++ group ∷ [])) → AtAnyMoment moment left_since old new (SurvivesAppending identifier groups entries)
  so_far_torn old between new identifier chain groups entries first rest entry group so_far text are (inl same) at =
      subst (λ d. AtAnyMoment moment left_since old d (SurvivesAppending identifier groups entries)) (sym same) so_far.moments
  so_far_torn old between new identifier chain groups entries first rest entry group so_far text are (inr fits) at =
      let more = so_far.more in
      let grouped : (groups ++ more) ++ group ∷ [] ≡ groups ++ (more ++ group ∷ []) = append_assoc groups more (group ∷ []) in
      joined moment left_since old between new (SurvivesAppending identifier groups entries) so_far.moments
      (weaker between new (Survives identifier groups ((groups ++ more) ++ group ∷ [])) (SurvivesAppending identifier groups entries)
      (λ left survives. record {
        first = first ++ entry ∷ [];
        rest = rest;
        appended = more ++ group ∷ [];
        entries_are = are;
        are_in = one_in first entry more group so_far.are_in text fits;
        survives = subst (λ gs. Survives identifier groups gs left) grouped survives;
      }) at)

  -- all are stored, or a crash comes meanwhile
  pub so_far_synced : (old between new : D) (identifier : List ℕ) (chain : Chain) (groups : List Group) (entries first rest : List (List ℕ)) (so_far : SoFar old between identifier chain groups entries first) → entries ≡ first ++ rest
      → AtAnyMoment moment left_since between new (Survives identifier groups (groups ++ so_far.more)) → AtAnyMoment moment left_since old new (SurvivesAppending identifier groups entries)
  so_far_synced old between new identifier chain groups entries first rest so_far are at =
      joined moment left_since old between new (SurvivesAppending identifier groups entries) so_far.moments
      (weaker between new (Survives identifier groups (groups ++ so_far.more)) (SurvivesAppending identifier groups entries)
      (λ left survives. record { first = first; rest = rest; appended = so_far.more; entries_are = are; are_in = so_far.are_in; survives = survives }) at)

-- ---- in a new file

pub one_drafted : {D : Type 0} (draft : D → List ℕ → Type 0) (between new : D) (chain behind : Chain) (entries : List (List ℕ)) (entry : List ℕ) (group : Group) (are : AreDrafted draft between chain entries)
    → group.text ≡ entries_text (entry ∷ []) → Drafts draft new behind (are.groups ++ group ∷ []) → AreDrafted draft new behind (entries ++ entry ∷ [])
one_drafted draft between new chain behind entries entry group are text drafts = record {
  groups = are.groups ++ group ∷ [];
  are_in = one_in entries entry are.groups group are.are_in text (last_fits behind.identifier are.groups group drafts.leads.fit);
  drafts = drafts;
}

-- ---- why nothing was written

-- an error that changed nothing, or one of an entry that has room in a group
pub unwritten : (error : JournalError) (Same Short : Type 0) → (error ≡ NoMemory → Same) → (error ≡ TooLong → Same) → (error ≡ Full → Same) → (error ≡ Failed → Same ⊎ Short) → Same ⊎ Short
unwritten NoMemory Same Short a b c d = inl (a refl)
unwritten TooLong Same Short a b c d = inl (b refl)
unwritten Full Same Short a b c d = inl (c refl)
unwritten Failed Same Short a b c d = d refl
