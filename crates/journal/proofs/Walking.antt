-- How a reader goes from group to group.
use Rattle.std.proofs.Common.{◌≡◌, inl, inr, ⊎_elim, ℕ, ◌+◌, ◌-◌, ◌^◌, ◌<◌, ◌≤◌, List, [], ◌∷◌, ◌++◌, length, get_or, take, drop, refl, sym, ◌∙◌, ap, subst, arith, append_assoc, length-append, length-drop, take-append-drop}
use Rattle.std.proofs.lemmas.Bool.{cases_lt}
use Rattle.std.proofs.lemmas.List.{append-nil, take_at, take_all, drop_at, drop-drop, drop-take, length-take, get_or_append_left, get_or-drop}
use Rattle.std.specs.List.{AllByRecursion}
use Rattle.std.proofs.Math.Seq.{take-append-add}
use Rattle.disk.specs.Disk.{StaysSo, TimeGoesOn, AtAnyMoment, Shortened}
use Rattle.disk.proofs.Moments.{begins, goes_on}
use Rattle.journal.specs.declared.chain.Chain.{Chain}
use Rattle.journal.specs.Format.{Group, Link, Fits, AllFit, next as next_link, end_of, opening, digits, header, sum_of, group_text, groups_text, first_line, file_of, entry_text, entries_text}
use Rattle.journal.specs.Recovery.{Begins, IsFileOf, SaysMore, IsNoText}
use Rattle.journal.specs.Sinks.{HandsOn}
use Rattle.journal.specs.Keeping.{Leads}
use Rattle.journal.specs.Found.{OnlyReads}
use Rattle.journal.specs.Recovering.{ReadSoFar, IsNext, HasNoNext, HandedOver, PlaceSaysMore, RecoversTheSame, IsRecovered, HasStopped, IsDamagedAt, HasNoEntriesAt, texts_of}
use Rattle.journal.proofs.Handing.{hands_on}
use Rattle.journal.proofs.Texts.{parts, length-group_text}
use Rattle.journal.proofs.Lines.{identifier_field}
use Rattle.journal.proofs.Chains.{fit-push, end_of-append, place_of_file, place_is, number_is, length-first_line}
use Rattle.journal.proofs.Survival.{file-push, stored_first, no_shorter}

module _ {D : Type 0} (holds may_leave : D → List ℕ → Type 0) (moment : D → ℕ) (left_since : D → ℕ → List ℕ → Type 0) where
  pub no_reads : (disk : D) → OnlyReads holds may_leave moment left_since disk disk
  no_reads disk = record {
    file = λ file h. h;
    crash = λ file m. m;
    time = record { later = omega arith; added = λ t left le since. inl since; kept = λ t left le since. since };
  }

  pub one_read : (old new : D) → StaysSo holds old new → StaysSo may_leave new old → TimeGoesOn (moment old) (moment new) (left_since old) (left_since new) (may_leave new) → OnlyReads holds may_leave moment left_since old new
  one_read old new file crash time = record {
    file = file;
    crash = crash;
    time = record { later = time.later; added = λ t left le since. ⊎_elim (λ past. inl past) (λ now. inr (crash left now)) (time.added t left le since); kept = time.kept };
  }

  pub reads_on : (old between new : D) → OnlyReads holds may_leave moment left_since old between → OnlyReads holds may_leave moment left_since between new → OnlyReads holds may_leave moment left_since old new
  reads_on old between new first second = record {
    file = λ file h. second.file file (first.file file h);
    crash = λ left m. first.crash left (second.crash left m);
    time = record {
      later = omega (arith, first.time.later, second.time.later);
      added = λ t left le since. ⊎_elim (λ past. first.time.added t left le past) (λ now. inr (first.crash left now)) (second.time.added t left (omega (arith, le, first.time.later)) since);
      kept = λ t left le since. second.time.kept t left (omega (arith, le, first.time.later)) (first.time.kept t left le since);
    };
  }

  pub moments_of : (old new : D) (property : List ℕ → Type 0) → OnlyReads holds may_leave moment left_since old new → ((left : List ℕ) → left_since old (moment old) left → may_leave old left) → ((left : List ℕ) → may_leave old left → property left)
      → AtAnyMoment moment left_since old new property
  moments_of old new property reads just here =
      goes_on moment left_since old old new property (may_leave old) (begins moment left_since old property (λ left since. here left (just left since))) reads.time here

entries-append : (xs ys : List (List ℕ)) → entries_text (xs ++ ys) ≡ entries_text xs ++ entries_text ys
entries-append [] ys = refl
entries-append (x ∷ xs) ys = ap (λ l. entry_text x ++ l) (entries-append xs ys) ∙ sym (append_assoc (entry_text x) (entries_text xs) (entries_text ys))

texts-push : (groups : List Group) (group : Group) → texts_of (groups ++ group ∷ []) ≡ texts_of groups ++ group.text
texts-push [] group = append-nil group.text
texts-push (g ∷ groups) group = ap (λ l. g.text ++ l) (texts-push groups group) ∙ sym (append_assoc g.text (texts_of groups) group.text)

module _ (file : List ℕ) (chain : Chain) (groups : List Group) (read : ReadSoFar file chain groups) where
  pub end_is : chain.len ≡ length (file_of chain.identifier groups)
  end_is = ap (λ l. l.place) read.link ∙ place_of_file chain.identifier groups read.sized

  pub rest_is : drop chain.len file ≡ read.rest
  rest_is = ap (λ n. drop n file) end_is ∙ ap (λ l. drop (length (file_of chain.identifier groups)) l) read.same ∙ drop_at (file_of chain.identifier groups) read.rest (length (file_of chain.identifier groups)) refl

  pub is_file_of : HasNoNext file chain → IsFileOf chain.identifier groups read.rest file
  is_file_of none = record {
    same = read.same;
    fit = read.fit;
    ends = λ group more fits stands. none group more (subst (λ l. Fits l group) (sym read.link) fits) (rest_is ∙ stands ∙ ap (λ l. group_text l group ++ more) (sym read.link));
  }

  pub says_of_place : (place : ℕ) → chain.len ≤ place → PlaceSaysMore file chain place → SaysMore chain.identifier (length (file_of chain.identifier groups)) read.rest
  says_of_place place behind says =
      let reach : chain.len + (place - chain.len) ≡ place = omega arith in
      record {
        skipped = place - chain.len;
        link = says.link;
        group = says.group;
        more = says.more;
        same_file = says.same_file;
        sized = says.sized;
        there = omega (arith, says.there, end_is);
        fits = says.fits;
        stands = ap (λ l. drop (place - chain.len) l) (sym rest_is) ∙ drop-drop (place - chain.len) chain.len file ∙ ap (λ n. drop n file) reach ∙ says.stands;
        says = omega (arith, says.says, end_is);
      }

  pub place_of_says : SaysMore chain.identifier (length (file_of chain.identifier groups)) read.rest → (place : ℕ) × (chain.len ≤ place) × PlaceSaysMore file chain place
  place_of_says says = (
    chain.len + says.skipped,
    omega arith,
    record {
      link = says.link;
      group = says.group;
      more = says.more;
      same_file = says.same_file;
      sized = says.sized;
      there = omega (arith, says.there, end_is);
      fits = says.fits;
      stands = sym (drop-drop says.skipped chain.len file) ∙ ap (λ l. drop says.skipped l) rest_is ∙ says.stands;
      says = omega (arith, says.says, end_is);
    },
  )

small-append : (xs ys : List (List ℕ)) → AllByRecursion (λ e. length e < 10 ^ 8) xs → AllByRecursion (λ e. length e < 10 ^ 8) ys → AllByRecursion (λ e. length e < 10 ^ 8) (xs ++ ys)
small-append [] ys small others = others
small-append (x ∷ xs) ys small others = (small.0, small-append xs ys small.1 others)

-- one group more was handed over
pub handed_on : {S : Type 0} (taken : S → List (List ℕ) → Type 0) (file : List ℕ) (chain behind : Chain) (before between after : S) (text : List ℕ) → HandedOver taken file chain before between → IsNext file chain behind text
    → (entries : List (List ℕ)) → HandsOn taken taken between after entries → text ≡ entries_text entries → AllByRecursion (λ entry. length entry < 10 ^ 8) entries → HandedOver taken file behind before after
handed_on taken file chain behind before between after text so_far found entries took is small =
    let read = so_far.read in
    let id = chain.identifier in
    let groups = so_far.groups in
    let group = found.group in
    let all = groups ++ group ∷ [] in
    let back = sym (ap (λ l. l.identifier) found.link) in
    let stands : read.rest ≡ group_text (end_of (opening id) groups) group ++ found.more = sym (rest_is file chain groups read) ∙ found.stands ∙ ap (λ l. group_text l group ++ found.more) read.link in
    let same : file ≡ file_of id all ++ found.more =
    read.same ∙ ap (λ l. file_of id groups ++ l) stands ∙ sym (append_assoc (file_of id groups) (group_text (end_of (opening id) groups) group) found.more) ∙ ap (λ l. l ++ found.more) (sym (file-push id read.sized groups group)) in
    let texts : entries_text entries ≡ group.text = sym is ∙ found.text_is in
    record {
      groups = all;
      entries = so_far.entries ++ entries;
      read = record {
        rest = found.more;
        sized = sym (ap length back) ∙ read.sized;
        same = same ∙ ap (λ i. file_of i all ++ found.more) back;
        fit = subst (λ i. AllFit (opening i) all) back (fit-push (opening id) groups group read.fit (subst (λ l. Fits l group) read.link found.fits));
        link = found.link ∙ ap (λ l. next_link l group) read.link ∙ sym (end_of-append (opening id) groups (group ∷ [])) ∙ ap (λ i. end_of (opening i) all) back;
      };
      handed_over = hands_on taken taken taken before between after so_far.entries entries so_far.handed_over took;
      whole = entries-append so_far.entries entries ∙ (λ i. so_far.whole i ++ texts i) ∙ sym (texts-push groups group);
      small = small-append so_far.entries entries so_far.small small;
    }

-- a file has one identifier
pub same_identifier : (one other : List ℕ) (g h : List Group) (r s : List ℕ) → length one ≡ 16 → length other ≡ 16 → file_of one g ++ r ≡ file_of other h ++ s → one ≡ other
same_identifier one other g h r s sized sized_too same =
    let lines = (parts (first_line one) (first_line other) (groups_text (opening one) g ++ r) (groups_text (opening other) h ++ s)
    (sym (append_assoc (first_line one) (groups_text (opening one) g) r) ∙ same ∙ append_assoc (first_line other) (groups_text (opening other) h) s) (length-first_line one sized ∙ sym (length-first_line other sized_too))).0 in
    sym (identifier_field one sized) ∙ ap (λ l. take 16 (drop 15 l)) lines ∙ identifier_field other sized_too

-- of two readings of a file neither has more
pub no_longer : (one other : List ℕ) (g h : List Group) (r s file : List ℕ) → length one ≡ 16 → length other ≡ 16 → IsFileOf one g r file → IsFileOf other h s file → length (file_of one g) ≤ length (file_of other h)
no_longer one other g h r s file sized sized_too read read_too =
    let is = same_identifier one other g h r s sized sized_too (sym read.same ∙ read_too.same) in
    let same : file ≡ file_of other g ++ r = read.same ∙ ap (λ i. file_of i g ++ r) is in
    let fit : AllFit (opening other) g = subst (λ i. AllFit (opening i) g) is read.fit in
    let front = stored_first other sized_too h g s file fit read_too (r, same) in
    omega (arith, ap (λ i. length (file_of i g)) is, no_shorter other sized_too g front.0, ap (λ gs. length (file_of other gs)) front.1)

-- a file that was cut behind its groups has the same ones
cut_reading : (identifier : List ℕ) (groups : List Group) (rest file : List ℕ) (m : ℕ) → length identifier ≡ 16 → IsFileOf identifier groups rest file → length (file_of identifier groups) ≤ m
    → (left : List ℕ) × IsFileOf identifier groups left (take m file) × (SaysMore identifier (length (file_of identifier groups)) left → SaysMore identifier (length (file_of identifier groups)) rest)
cut_reading identifier groups rest file m sized read behind =
    let front = file_of identifier groups in
    let k = m - length front in
    let reach : m ≡ length front + k = omega arith in
    let whole : take k rest ++ drop k rest ≡ rest = take-append-drop k rest in (
      take k rest,
      record {
        same = ap (λ l. take m l) read.same ∙ ap (λ n. take n (front ++ rest)) reach ∙ take-append-add front rest k;
        fit = read.fit;
        ends = λ group more fits stands. read.ends group (more ++ drop k rest) fits (sym whole ∙ ap (λ l. l ++ drop k rest) stands ∙ append_assoc (group_text (end_of (opening identifier) groups) group) more (drop k rest));
      },
      λ says. further says,
    )
  where
    k : ℕ
    k = m - length (file_of identifier groups)

    further : SaysMore identifier (length (file_of identifier groups)) (take k rest) → SaysMore identifier (length (file_of identifier groups)) rest
    further says = elim (cases_lt k says.skipped) [
      | inl past ↦ absurd (omega (arith, ap length says.stands, length-append (group_text says.link says.group) says.more, length-group_text says.link (ap length says.same_file ∙ sized) says.sized says.group, length-drop says.skipped (take k rest), length-take k rest))
      | inr within ↦
          let j = k - says.skipped in
          let reach : k ≡ says.skipped + j = omega arith in
          let split : drop says.skipped rest ≡ drop says.skipped (take k rest) ++ drop j (drop says.skipped rest) =
          sym (take-append-drop j (drop says.skipped rest)) ∙ ap (λ l. l ++ drop j (drop says.skipped rest)) (sym (ap (λ n. drop says.skipped (take n rest)) reach ∙ drop-take says.skipped j rest)) in
          record {
            skipped = says.skipped;
            link = says.link;
            group = says.group;
            more = says.more ++ drop j (drop says.skipped rest);
            same_file = says.same_file;
            sized = says.sized;
            there = says.there;
            fits = says.fits;
            stands = split ∙ ap (λ l. l ++ drop j (drop says.skipped rest)) says.stands ∙ append_assoc (group_text says.link says.group) says.more (drop j (drop says.skipped rest));
            says = says.says;
          }
    ]

pub recovers_itself : (file : List ℕ) → RecoversTheSame file file
recovers_itself file = λ identifier groups rest sized read. (rest, read, λ says. says)

pub recovers_cut : (id : List ℕ) (groups : List Group) (rest file : List ℕ) (m : ℕ) → length id ≡ 16 → IsFileOf id groups rest file → length (file_of id groups) ≤ m → RecoversTheSame file (take m file)
recovers_cut id groups rest file m sized read behind = λ identifier gs r sized_too read_too.
    cut_reading identifier gs r file m sized_too read_too (omega (arith, no_longer identifier id gs groups r rest file sized_too sized read_too read))

-- a group begins with the identifier of its file
begins_so : (link : Link) (group : Group) (more : List ℕ) → group_text link group ++ more
    ≡ link.identifier ++ ((32 ∷ digits 12 link.number ++ (32 ∷ digits 8 (length group.text) ++ (32 ∷ digits 15 group.durable ++ (32 ∷ link.before ++ 32 ∷ [])))) ++ ((sum_of link group ++ 10 ∷ group.text) ++ more))
unfolding group_text header
begins_so link group more =
    let front = 32 ∷ digits 12 link.number ++ (32 ∷ digits 8 (length group.text) ++ (32 ∷ digits 15 group.durable ++ (32 ∷ link.before ++ 32 ∷ []))) in
    append_assoc (link.identifier ++ front) (sum_of link group ++ 10 ∷ group.text) more ∙ append_assoc link.identifier front ((sum_of link group ++ 10 ∷ group.text) ++ more)

-- the first byte of a group is that of its file's identifier
pub first_byte : (link : Link) (group : Group) (file more : List ℕ) (place : ℕ) → length link.identifier ≡ 16 → drop place file ≡ group_text link group ++ more → get_or file place 0 ≡ get_or link.identifier 0 0
first_byte link group file more place named stands =
    let zero_more : place ≡ place + 0 = omega arith in
    ap (λ n. get_or file n 0) zero_more ∙ sym (get_or-drop place file 0 0) ∙ ap (λ l. get_or l 0 0) (stands ∙ begins_so link group more) ∙ get_or_append_left link.identifier _ 0 0 (omega (arith, named))

modest_of : (link : Link) (groups : List Group) (most : ℕ) → AllFit link groups → link.place + length (groups_text link groups) ≤ most → AllByRecursion (λ g. g.durable ≤ most) groups
modest_of link [] most fit small = tt
modest_of link (g ∷ groups) most fit small =
    let long = length-append (group_text link g) (groups_text (next_link link g) groups) in
    let own = fit.0.durable in (omega (arith, own, small), modest_of (next_link link g) groups most fit.1 (omega (arith, small, long)))

module _ (file : List ℕ) (chain : Chain) (groups : List Group) (read : ReadSoFar file chain groups) (none : HasNoNext file chain) where
  -- up to the end of the chain stands the file of the groups
  pub whole_is : take chain.len file ≡ file_of chain.identifier groups
  whole_is = ap (λ l. take chain.len l) read.same ∙ take_at (file_of chain.identifier groups) read.rest chain.len (sym (end_is file chain groups read))

  -- a file that ends there is that file
  pub all_is : length file ≤ chain.len → file ≡ file_of chain.identifier groups
  all_is short = sym (take_all chain.len file short) ∙ whole_is

  pub cut_left : (before left : List ℕ) → before ≡ file → Shortened chain.len before left → RecoversTheSame file left
  cut_left before left is shortened =
      subst (RecoversTheSame file) (sym (shortened.2 ∙ ap (λ l. take shortened.0 l) is))
      (recovers_cut chain.identifier groups read.rest file shortened.0 read.sized (is_file_of file chain groups read none) (omega (arith, end_is file chain groups read, shortened.1)))

  pub damaged_at : (place : ℕ) → chain.len ≤ place → PlaceSaysMore file chain place → IsDamagedAt file chain.number chain.len
  damaged_at place behind says = record {
    identifier = chain.identifier;
    groups = groups;
    rest = read.rest;
    sized = read.sized;
    read = is_file_of file chain groups read none;
    number_is = omega (arith, ap (λ l. l.number) read.link, number_is (opening chain.identifier) groups);
    place_is = end_is file chain groups read;
    says_more = subst (λ n. SaysMore chain.identifier n read.rest) (sym (end_is file chain groups read)) (says_of_place file chain groups read place behind says);
  }

  pub finished_leads : Leads chain.identifier (record chain { durable = chain.len }) groups groups
  finished_leads = record {
    sized = read.sized;
    front = ([], sym (append-nil groups));
    fit = read.fit;
    link = read.link;
    durable = end_is file chain groups read;
    modest = modest_of (opening chain.identifier) groups (length (file_of chain.identifier groups)) read.fit
        (omega (arith, place_is (opening chain.identifier) groups, place_of_file chain.identifier groups read.sized));
  }

-- what was handed over is recovered, once the disk has just that
pub finished : {D S : Type 0} (holds may_leave : D → List ℕ → Type 0) (taken : S → List (List ℕ) → Type 0) (file : List ℕ) (disk : D) (chain : Chain) (before after : S) (so_far : HandedOver taken file chain before after) → HasNoNext file chain
    → holds disk (file_of chain.identifier so_far.groups) → ((left : List ℕ) → may_leave disk left → left ≡ file_of chain.identifier so_far.groups) → IsRecovered holds may_leave taken file disk (record chain { durable = chain.len }) before after
finished holds may_leave taken file disk chain before after so_far none held just = record {
  groups = so_far.groups;
  rest = so_far.read.rest;
  entries = so_far.entries;
  read = is_file_of file chain so_far.groups so_far.read none;
  keeps = record { leads = finished_leads file chain so_far.groups so_far.read none; file = held; crash = λ left may. ([], just left may ∙ sym (append-nil (file_of chain.identifier so_far.groups))) };
  handed_over = so_far.handed_over;
  whole = so_far.whole;
  small = so_far.small;
}

-- the next group is whole and has no entries
pub no_entries_at : {S : Type 0} (taken : S → List (List ℕ) → Type 0) (file : List ℕ) (chain behind : Chain) (before between : S) (text : List ℕ) → HandedOver taken file chain before between → IsNext file chain behind text → IsNoText text → HasNoEntriesAt file chain.number
no_entries_at taken file chain behind before between text so_far found none =
    let read = so_far.read in
    let id = chain.identifier in
    let groups = so_far.groups in
    let group = found.group in
    let stands : read.rest ≡ group_text (end_of (opening id) groups) group ++ found.more = sym (rest_is file chain groups read) ∙ found.stands ∙ ap (λ l. group_text l group ++ found.more) read.link in
    record {
      identifier = id;
      groups = groups;
      group = group;
      rest = found.more;
      sized = read.sized;
      same = read.same ∙ ap (λ l. file_of id groups ++ l) stands ∙ sym (append_assoc (file_of id groups) (group_text (end_of (opening id) groups) group) found.more) ∙ ap (λ l. l ++ found.more) (sym (file-push id read.sized groups group));
      fit = fit-push (opening id) groups group read.fit (subst (λ l. Fits l group) read.link found.fits);
      number_is = omega (arith, ap (λ l. l.number) read.link, number_is (opening id) groups);
      no_text = subst IsNoText found.text_is none;
    }

joined : {A : Type 0} {a b c d : List A} → a ≡ b → c ≡ d → a ++ c ≡ b ++ d
joined same other = λ i. same i ++ other i

-- the sink has refused an entry of the next group
pub stopped_at : {S : Type 0} (taken refused : S → List (List ℕ) → Type 0) (file : List ℕ) (chain behind : Chain) (before between after : S) (text : List ℕ) → HandedOver taken file chain before between → IsNext file chain behind text
    → (entries : List (List ℕ)) → HandsOn taken refused between after entries → Begins (entries_text entries) text → HasStopped taken refused file before after
stopped_at taken refused file chain behind before between after text so_far found entries took front =
    let read = so_far.read in
    let id = chain.identifier in
    let groups = so_far.groups in
    let group = found.group in
    let stands : read.rest ≡ group_text (end_of (opening id) groups) group ++ found.more = sym (rest_is file chain groups read) ∙ found.stands ∙ ap (λ l. group_text l group ++ found.more) read.link in
    record {
      identifier = id;
      groups = groups ++ group ∷ [];
      rest = found.more;
      entries = so_far.entries ++ entries;
      sized = read.sized;
      same = read.same ∙ ap (λ l. file_of id groups ++ l) stands ∙ sym (append_assoc (file_of id groups) (group_text (end_of (opening id) groups) group) found.more) ∙ ap (λ l. l ++ found.more) (sym (file-push id read.sized groups group));
      fit = fit-push (opening id) groups group read.fit (subst (λ l. Fits l group) read.link found.fits);
      first = (front.0, texts-push groups group ∙ joined (sym so_far.whole) (sym found.text_is ∙ front.1) ∙ sym (append_assoc (entries_text so_far.entries) (entries_text entries) front.0) ∙ ap (λ t. t ++ front.0) (sym (entries-append so_far.entries entries)));
      refused_last = hands_on taken taken refused before between after so_far.entries entries so_far.handed_over took;
    }
