-- What a crash leaves of a file: that which was stored, and what is recovered of it.
use Rattle.std.proofs.Common.{◌≡◌, ◌⊎◌, inl, inr, ⊎_elim, ℕ, ◌+◌, ◌-◌, ◌≤◌, List, [], ◌∷◌, ◌++◌, length, take, drop, refl, sym, ◌∙◌, ap, subst, arith, append_assoc, length-append}
use Rattle.std.proofs.lemmas.Bool.{cases_eq}
use Rattle.std.proofs.lemmas.List.{drop_at, drop-drop, append_cancel_left}
use Rattle.std.proofs.Math.Seq.{take-append-add}
use Rattle.disk.specs.Disk.{Torn, Shortened}
use Rattle.journal.specs.Format.{Group, Link, AllFit, next, end_of, opening, group_text, groups_text, first_line, file_of}
use Rattle.journal.specs.Recovery.{Begins, IsFileOf, SaysMore, HasStranger, Survives}
use Rattle.journal.proofs.Chains.{IsSized, opening_sized, groups_text-append, groups_text-push, fit-back, one_goes_on}

-- a list is another, or it is not
cases_list : (xs ys : List ℕ) → (xs ≡ ys) ⊎ (xs ≡ ys → ⊥)
cases_list [] [] = inl refl
cases_list [] (y ∷ ys) = inr (λ same. cc)
cases_list (x ∷ xs) [] = inr (λ same. cc)
cases_list (x ∷ xs) (y ∷ ys) = elim (cases_eq x y) [
  | inl first ↦ ⊎_elim (λ rest. inl (λ i. first i ∷ rest i)) (λ apart. inr (λ same. apart (cc))) (cases_list xs ys)
  | inr apart ↦ inr (λ same. apart (cc))
]

cases_group : (g h : Group) → (g ≡ h) ⊎ (g ≡ h → ⊥)
cases_group g h = elim (cases_eq g.durable h.durable) [
  | inl durable ↦ ⊎_elim (λ text. inl (λ i. record { durable = durable i; text = text i })) (λ apart. inr (λ same. apart (ap (λ f. f.text) same))) (cases_list g.text h.text)
  | inr apart ↦ inr (λ same. apart (ap (λ f. f.durable) same))
]

-- the first place at which one list of groups is not the front of another
record Parts (xs ys : List Group) : Type 0 where
  pub front : List Group
  pub stranger : Group
  pub more : List Group
  pub same : xs ≡ front ++ stranger ∷ more
  pub begins : Begins front ys
  pub nobody : Begins (front ++ stranger ∷ []) ys → ⊥

begins_or_parts : (xs ys : List Group) → Begins xs ys ⊎ Parts xs ys
begins_or_parts [] ys = inl (ys, refl)
begins_or_parts (g ∷ xs) [] = inr (record { front = []; stranger = g; more = xs; same = refl; begins = ([], refl); nobody = λ b. let e = b.1 in cc })
begins_or_parts (g ∷ xs) (h ∷ ys) = elim (cases_group g h) [
  | inl is ↦ ⊎_elim (λ b. inl (b.0, λ i. (sym is) i ∷ b.1 i)) (λ p. inr (record {
    front = g ∷ p.front;
    stranger = p.stranger;
    more = p.more;
    same = λ i. g ∷ p.same i;
    begins = (p.begins.0, λ i. (sym is) i ∷ p.begins.1 i);
    nobody = λ b. p.nobody (b.0, (let e = b.1 in cc));
  })) (begins_or_parts xs ys)
  | inr apart ↦ inr (record { front = []; stranger = g; more = xs; same = refl; begins = (h ∷ ys, refl); nobody = λ b. apart (let e = b.1 in cc) })
]

pub begins_further : {A : Type 0} (xs ys zs : List A) → Begins xs ys → Begins ys zs → Begins xs zs
begins_further xs ys zs b c = (b.0 ++ c.0, c.1 ∙ ap (λ l. l ++ c.0) b.1 ∙ append_assoc xs b.0 c.0)

-- a front of a list ends before one of its elements, or has it
cut : (stored front : List Group) (g : Group) (more rest : List Group) → stored ++ rest ≡ front ++ g ∷ more → Begins stored front ⊎ Begins (front ++ g ∷ []) stored
cut [] front g more rest same = inl (front, refl)
cut (x ∷ stored) [] g more rest same = inr (stored, (let is : x ≡ g = cc in λ i. is i ∷ stored))
cut (x ∷ stored) (f ∷ front) g more rest same =
    let is : x ≡ f = cc in
    let back : stored ++ rest ≡ front ++ g ∷ more = cc in
    let other = sym is in
    ⊎_elim (λ b. inl (b.0, λ i. other i ∷ b.1 i)) (λ b. inr (b.0, λ i. is i ∷ b.1 i)) (cut stored front g more rest back)

-- a torn write keeps what stands before it
pub torn_keeps : (front before after : List ℕ) (at n : ℕ) → Begins front before → length front ≤ at → Torn at n before after → Begins front after
torn_keeps front before after at n begins short torn =
    let k = at - length front in
    let reach : at ≡ length front + k = omega arith in
    let kept : take at before ≡ front ++ take k begins.0 = ap (λ l. take at l) begins.1 ∙ ap (λ m. take m (front ++ begins.0)) reach ∙ take-append-add front begins.0 k in
    (take k begins.0 ++ torn.range ++ drop (at + n) before, torn.same ∙ ap (λ l. l ++ torn.range ++ drop (at + n) before) kept ∙ simp append_assoc)

-- and so does a cut behind it
pub cut_keeps : (front before after : List ℕ) (n : ℕ) → Begins front before → length front ≤ n → Shortened n before after → Begins front after
cut_keeps front before after n begins short shortened =
    let k = shortened.0 - length front in
    let reach : shortened.0 ≡ length front + k = omega (arith, shortened.1) in
    (take k begins.0, shortened.2 ∙ ap (λ l. take shortened.0 l) begins.1 ∙ ap (λ m. take m (front ++ begins.0)) reach ∙ take-append-add front begins.0 k)

module _ (identifier : List ℕ) (sized : length identifier ≡ 16) where
  abbrev start : Link
  start = opening identifier

  start_sized : IsSized start
  start_sized = opening_sized identifier sized

  -- of two readings of a file from its first line on, the groups of one go on with those of the other
  pub readings : (xs ys : List Group) (r s : List ℕ) → AllFit start xs → AllFit start ys → file_of identifier xs ++ r ≡ file_of identifier ys ++ s
      → ((more : List Group) × (xs ≡ ys ++ more)) ⊎ ((g : Group) × (more : List Group) × (ys ≡ xs ++ g ∷ more) × (r ≡ groups_text (end_of start xs) (g ∷ more) ++ s))
  readings xs ys r s fit_xs fit_ys same =
      one_goes_on start xs ys r s start_sized fit_xs fit_ys
      (append_cancel_left (first_line identifier) (groups_text start xs ++ r) (groups_text start ys ++ s)
      (sym (append_assoc (first_line identifier) (groups_text start xs) r) ∙ same ∙ append_assoc (first_line identifier) (groups_text start ys) s))

  -- what is recovered has what was stored
  pub stored_first : (groups stored : List Group) (rest left : List ℕ) → AllFit start stored → IsFileOf identifier groups rest left → Begins (file_of identifier stored) left → Begins stored groups
  stored_first groups stored rest left fit read begins = elim (readings groups stored rest begins.0 read.fit fit (sym read.same ∙ begins.1)) [
    | inl on ↦ on
    | inr on ↦ absurd (read.ends on.0 (groups_text (next (end_of start groups) on.0) on.1 ++ begins.0) (fit-back start groups (on.0 ∷ on.1) (subst (AllFit start) on.2 fit)).0
        (on.3 ∙ append_assoc (group_text (end_of start groups) on.0) (groups_text (next (end_of start groups) on.0) on.1) begins.0))
  ]

  file-append : (xs ys : List Group) → file_of identifier (xs ++ ys) ≡ file_of identifier xs ++ groups_text (end_of start xs) ys
  file-append xs ys =
      ap (λ l. first_line identifier ++ l) (groups_text-append start xs ys) ∙ sym (append_assoc (first_line identifier) (groups_text start xs) (groups_text (end_of start xs) ys))

  pub file-push : (groups : List Group) (group : Group) → file_of identifier (groups ++ group ∷ []) ≡ file_of identifier groups ++ group_text (end_of start groups) group
  file-push groups group =
      ap (λ l. first_line identifier ++ l) (groups_text-push start groups group) ∙ sym (append_assoc (first_line identifier) (groups_text start groups) (group_text (end_of start groups) group))

  -- the file of more groups is no shorter
  pub no_shorter : (xs ys : List Group) → length (file_of identifier xs) ≤ length (file_of identifier (xs ++ ys))
  no_shorter xs ys = omega (arith, ap length (file-append xs ys), length-append (file_of identifier xs) (groups_text (end_of start xs) ys))

  recovered : (stored appended groups : List Group) (rest left : List ℕ) → AllFit start stored → Begins stored appended → Begins (file_of identifier stored) left → IsFileOf identifier groups rest left
      → (Begins stored groups × Begins groups appended) ⊎ HasStranger identifier stored appended left
  recovered stored appended groups rest left fit front begins read =
      let first = stored_first groups stored rest left fit read begins in
      ⊎_elim (λ b. inl (first, b)) (λ p. inr (stranger p first)) (begins_or_parts groups appended)
    where
      stranger : Parts groups appended → Begins stored groups → HasStranger identifier stored appended left
      stranger p first = record {
        front = p.front;
        stranger = p.stranger;
        more = groups_text (next (end_of start p.front) p.stranger) p.more ++ rest;
        stored_first = ⊎_elim (λ b. b) (λ b. absurd (p.nobody (begins_further (p.front ++ p.stranger ∷ []) stored appended b front))) (cut stored p.front p.stranger p.more first.0 (sym first.1 ∙ p.same));
        were_appended = p.begins;
        fits = (fit-back start p.front (p.stranger ∷ p.more) (subst (AllFit start) p.same read.fit)).0;
        stands = read.same ∙ ap (λ gs. file_of identifier gs ++ rest) p.same ∙ ap (λ l. l ++ rest) (file-append p.front (p.stranger ∷ p.more))
            ∙ append_assoc (file_of identifier p.front) (groups_text (end_of start p.front) (p.stranger ∷ p.more)) rest
            ∙ ap (λ l. file_of identifier p.front ++ l) (append_assoc (group_text (end_of start p.front) p.stranger) (groups_text (next (end_of start p.front) p.stranger) p.more) rest);
        nobody = p.nobody;
      }

  pub accepted : (stored groups : List Group) (rest left : List ℕ) → AllFit start stored → Begins (file_of identifier stored) left → IsFileOf identifier groups rest left → SaysMore identifier (length (file_of identifier groups)) rest
      → SaysMore identifier (length (file_of identifier stored)) (drop (length (file_of identifier stored)) left)
  accepted stored groups rest left fit begins read says =
      let first = stored_first groups stored rest left fit read begins in
      let short : length (file_of identifier stored) ≤ length (file_of identifier groups) = omega (arith, no_shorter stored first.0, ap (λ gs. length (file_of identifier gs)) first.1) in
      let skipped = length (file_of identifier groups) - length (file_of identifier stored) + says.skipped in
      let place : length (file_of identifier stored) + skipped ≡ length (file_of identifier groups) + says.skipped = omega arith in
      record {
        skipped = skipped;
        link = says.link;
        group = says.group;
        more = says.more;
        same_file = says.same_file;
        sized = says.sized;
        there = omega (arith, says.there);
        fits = says.fits;
        stands = drop-drop skipped (length (file_of identifier stored)) left ∙ ap (λ n. drop n left) place ∙ sym (drop-drop says.skipped (length (file_of identifier groups)) left)
            ∙ ap (λ l. drop says.skipped l) (ap (λ l. drop (length (file_of identifier groups)) l) read.same ∙ drop_at (file_of identifier groups) rest (length (file_of identifier groups)) refl) ∙ says.stands;
        says = omega (arith, says.says);
      }

  -- a file that begins with what was stored survives
  pub survives : (stored appended : List Group) (left : List ℕ) → AllFit start stored → Begins stored appended → Begins (file_of identifier stored) left → Survives identifier stored appended left
  survives stored appended left fit front begins = record {
    first = begins_further (first_line identifier) (file_of identifier stored) left (groups_text start stored, refl) begins;
    recovered = λ groups rest read. recovered stored appended groups rest left fit front begins read;
    accepted = λ groups rest read says. accepted stored groups rest left fit begins read says;
  }
