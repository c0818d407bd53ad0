-- What a file keeps behind an append.
use Rattle.std.proofs.Common.{◌≡◌, ◌⊎◌, inl, inr, ℕ, suc, ◌+◌, ◌<◌, ◌≤◌, ◌^◌, List, [], ◌∷◌, ◌++◌, length, take, drop, Vec, Global, refl, ap, sym, subst, ◌∙◌, append_assoc, append-nil, length-append, arith}
use Rattle.std.specs.List.{AllByRecursion}
use Rattle.std.proofs.lemmas.List.{map-append, take-append-drop, length-map, length-take-le, length-drop, drop-drop}
use Rattle.std.proofs.lemmas.Grind.{flat_map-append}
use Rattle.journal.specs.Format.{Group, opening, next, digits, entry_text, entries_text}
use Rattle.journal.specs.Recovery.{Survives}
use Rattle.journal.specs.Recovering.{texts_of}
use Rattle.journal.specs.Keeping.{Keeps, chain_identifier}
use Rattle.journal.specs.declared.chain.Chain.{Chain}
use Rattle.journal.proofs.Chains.{fit-back}
use Rattle.disk.specs.Disk.{AtAnyMoment}
use Rattle.rtdb_model.specs.Step.{Call}
use Rattle.locked_server.specs.declared.entry.Entry.{Entry}
use Rattle.locked_server.specs.Known.{Known}
use Rattle.store.specs.Replay.{AreEntriesOf}
use Rattle.store.specs.Recovered.{AreIn}
use Rattle.hall_journal.specs.Kept.{Began, IsLeft, KeepsCalls, KeepsHistory}
use Rattle.hall_journal.specs.Working.{AreNext, texts}
use Rattle.hall_journal.proofs.Growing.{parts_same}

-- ---- entries and groups

texts-append : (xs ys : List Group) → texts_of (xs ++ ys) ≡ texts_of xs ++ texts_of ys
texts-append [] ys = refl
texts-append (x ∷ xs) ys = ap (λ (l : List ℕ). x.text ++ l) (texts-append xs ys) ∙ sym (append_assoc x.text (texts_of xs) (texts_of ys))

all-append : {A : Type 0} (P : A → Type 0) (xs ys : List A) → AllByRecursion P xs → AllByRecursion P ys → AllByRecursion P (xs ++ ys)
all-append P [] ys all more = more
all-append P (x ∷ xs) ys all more = (all.0, all-append P xs ys all.1 more)

pub entries-append : (es fs : List (List ℕ)) (cs ds : List Call) → AreEntriesOf es cs → AreEntriesOf fs ds → AreEntriesOf (es ++ fs) (cs ++ ds)
entries-append [] fs [] ds are more = more
entries-append [] fs (c ∷ cs) ds are more = absurd are
entries-append (e ∷ es) fs [] ds are more = absurd are
entries-append (e ∷ es) fs (c ∷ cs) ds are more = (are.0, entries-append es fs cs ds are.1 more)

pub entries-length : (es : List (List ℕ)) (cs : List Call) → AreEntriesOf es cs → length es ≡ length cs
entries-length [] [] are = refl
entries-length [] (c ∷ cs) are = absurd are
entries-length (e ∷ es) [] are = absurd are
entries-length (e ∷ es) (c ∷ cs) are = ap suc (entries-length es cs are.1)

-- entries in two parts are those of calls in two parts
pub entries-parts : (es fs : List (List ℕ)) (cs : List Call) → AreEntriesOf (es ++ fs) cs → (front back : List Call) × (cs ≡ front ++ back) × AreEntriesOf es front × AreEntriesOf fs back
entries-parts [] fs cs are = ([], cs, refl, tt, are)
entries-parts (e ∷ es) fs [] are = absurd are
entries-parts (e ∷ es) fs (c ∷ cs) are = let rest = entries-parts es fs cs are.1 in (c ∷ rest.0, rest.1, ap (λ (l : List Call). c ∷ l) rest.2, (are.0, rest.3), rest.4)

-- the first of the entries that come next come next, and behind them the others do
pub next-parts : (seen : List Entry) (count : ℕ) (es fs : List (List ℕ)) → AreNext seen count (es ++ fs) → AreNext seen count es × AreNext seen (count + length es) fs
next-parts seen count es fs next =
    let parts = entries-parts es fs next.next next.entries_are in
    let cut : next.earlier ++ (next.next ++ next.later) ≡ next.earlier ++ (parts.0 ++ (parts.1 ++ next.later)) = ap (λ (l : List Call). next.earlier ++ l) (ap (λ (l : List Call). l ++ next.later) parts.2 ∙ append_assoc parts.0 parts.1 next.later) in (
      record {
        earlier = next.earlier;
        next = parts.0;
        later = parts.1 ++ next.later;
        changed = next.changed ∙ cut;
        count_is = next.count_is;
        entries_are = parts.3;
      },
      record {
        earlier = next.earlier ++ parts.0;
        next = parts.1;
        later = next.later;
        changed = next.changed ∙ cut ∙ sym (append_assoc next.earlier parts.0 (parts.1 ++ next.later));
        count_is = length-append next.earlier parts.0 ∙ omega (arith, next.count_is, entries-length es parts.0 parts.3);
        entries_are = parts.4;
      },
    )

-- the first of those from a place on, and those behind them
pub next-cut : (seen : List Entry) (count at n : ℕ) (entries : List (Vec ℕ Global)) → at + n ≤ length entries → AreNext seen count (texts (drop at entries))
    → AreNext seen count (texts (take n (drop at entries))) × AreNext seen (count + n) (texts (drop (at + n) entries))
next-cut seen count at n entries inside next =
    let f : Vec ℕ Global → List ℕ = λ entry. entry.items in
    let rest = drop at entries in
    let both : texts rest ≡ texts (take n rest) ++ texts (drop n rest) = ap (λ (es : List (Vec ℕ Global)). texts es) (sym (take-append-drop n rest)) ∙ map-append f (take n rest) (drop n rest) in
    let parts = next-parts seen count (texts (take n rest)) (texts (drop n rest)) (subst (λ (es : List (List ℕ)). AreNext seen count es) both next) in
    let long : length (texts (take n rest)) ≡ n = length-map (take n rest) f ∙ length-take-le n rest (omega (arith, length-drop at entries, inside)) in
    (parts.0, subst (λ (es : List (Vec ℕ Global)). AreNext seen (count + n) (texts es)) (drop-drop n at entries) (subst (λ (m : ℕ). AreNext seen (count + m) (texts (drop n rest))) long parts.1))

-- an entry is no longer than the text of all
small-in : (entries : List (List ℕ)) → length (entries_text entries) < 10 ^ 8 → AllByRecursion (λ entry. length entry < 10 ^ 8) entries
unfolding entry_text digits
small-in [] short = tt
small-in (entry ∷ entries) short =
    let whole = length-append (entry_text entry) (entries_text entries) in
    let one : length (entry_text entry) ≡ length (digits 8 (length entry)) + length ((32 ∷ entry) ++ (10 ∷ [])) = length-append (digits 8 (length entry)) ((32 ∷ entry) ++ (10 ∷ [])) in
    let two : length ((32 ∷ entry) ++ (10 ∷ [])) ≡ length (32 ∷ entry) + 1 = length-append (32 ∷ entry) (10 ∷ []) in
    (omega (arith, whole, one, two, short), small-in entries (omega (arith, whole, short)))

-- ---- what is left

-- what a crash leaves of some calls, it leaves of more
pub leaves-more : (began : Began) (had : List Group) (changed next : List Call) (left : List ℕ) → IsLeft began had changed left → IsLeft began had (changed ++ next) left
leaves-more began had changed next left leaves =
    record {
      stored = leaves.stored;
      appended = leaves.appended;
      kept = leaves.kept;
      all = leaves.all;
      made = leaves.made;
      kept_in = leaves.kept_in;
      all_in = leaves.all_in;
      entries = leaves.entries;
      first = (leaves.first.0 ++ next, ap (λ (l : List Call). l ++ next) leaves.first.1 ∙ append_assoc leaves.made leaves.first.0 next);
      survives = leaves.survives;
    }

module _ {D : Type 0} (holds may_leave : D → List ℕ → Type 0) (moment : D → ℕ) (left_since : D → ℕ → List ℕ → Type 0) (began : Began) (had : List Group) where
  -- a group of the entries of the next calls was appended and stored
  pub appended-more : (old new : D) (before after : Chain) (changed next : List Call) (entries : List (List ℕ)) (group : Group)
      → group.text ≡ entries_text entries → AreEntriesOf entries next → chain_identifier after ≡ chain_identifier before
      → (kept : KeepsCalls holds may_leave moment left_since began had old before changed)
      → Keeps holds may_leave new after ((had ++ kept.appended) ++ group ∷ []) ((had ++ kept.appended) ++ group ∷ [])
      → AtAnyMoment moment left_since old new (Survives (chain_identifier before) (had ++ kept.appended) ((had ++ kept.appended) ++ group ∷ []))
      → KeepsCalls holds may_leave moment left_since began had new after (changed ++ next)
  appended-more old new before after changed next entries group text are same kept keeps times =
      let all = kept.appended ++ group ∷ [] in
      let whole : (had ++ kept.appended) ++ group ∷ [] ≡ had ++ all = append_assoc had kept.appended (group ∷ []) in
      let fits = fit-back (opening (chain_identifier after)) (had ++ kept.appended) (group ∷ []) keeps.leads.fit in
      let short : length (entries_text entries) < 10 ^ 8 = subst (λ (t : List ℕ). length t < 10 ^ 8) text (omega (arith, fits.0.text)) in
      let all_in : AreIn (kept.kept ++ entries) all =
      record {
        whole = flat_map-append entry_text kept.kept entries ∙ ap (λ (t : List ℕ). t ++ entries_text entries) kept.kept_in.whole
            ∙ ap (λ (t : List ℕ). texts_of kept.appended ++ t) (sym text ∙ sym (append-nil group.text)) ∙ sym (texts-append kept.appended (group ∷ []));
        small = all-append (λ (entry : List ℕ). length entry < 10 ^ 8) kept.kept entries kept.kept_in.small (small-in entries short);
      } in
      let entries_are : AreEntriesOf (kept.kept ++ entries) (changed ++ next) = entries-append kept.kept entries changed next kept.entries are in
      let by : (left : List ℕ) → left_since old began.moment left ⊎ Survives (chain_identifier before) (had ++ kept.appended) ((had ++ kept.appended) ++ group ∷ []) left → IsLeft began had (changed ++ next) left =
      λ left either. since left all all_in entries_are whole either in
      record {
        appended = all;
        kept = kept.kept ++ entries;
        identified = same ∙ kept.identified;
        keeps = subst (λ (groups : List Group). Keeps holds may_leave new after groups groups) whole keeps;
        kept_in = all_in;
        entries = entries_are;
        later = omega (arith, kept.later, times.later);
        since = λ left might. by left (times.earlier began.moment left kept.later might);
      }
    where
      since : (left : List ℕ) (all : List Group) → AreIn (kept.kept ++ entries) all → AreEntriesOf (kept.kept ++ entries) (changed ++ next) → (had ++ kept.appended) ++ group ∷ [] ≡ had ++ all
          → left_since old began.moment left ⊎ Survives (chain_identifier before) (had ++ kept.appended) ((had ++ kept.appended) ++ group ∷ []) left → IsLeft began had (changed ++ next) left
      since left all all_in entries_are whole (inl earlier) = leaves-more began had changed next left (kept.since left earlier)
      since left all all_in entries_are whole (inr survives) =
          record {
            stored = kept.appended;
            appended = all;
            kept = kept.kept;
            all = kept.kept ++ entries;
            made = changed ++ next;
            kept_in = kept.kept_in;
            all_in = all_in;
            entries = entries_are;
            first = ([], sym (append-nil (changed ++ next)));
            survives = subst (λ (groups : List Group). Survives began.identifier (had ++ kept.appended) groups left) whole (subst (λ (i : List ℕ). Survives i (had ++ kept.appended) ((had ++ kept.appended) ++ group ∷ []) left) kept.identified survives);
          }

  -- and so the file keeps more of the history that a seat has seen
  pub history-more : (old new : D) (before after : Chain) (seat : Known) (count : ℕ) (entries : List (List ℕ)) (group : Group)
      → group.text ≡ entries_text entries → AreNext seat.seen count entries → chain_identifier after ≡ chain_identifier before
      → (kept : KeepsHistory holds may_leave moment left_since began had old before seat count)
      → Keeps holds may_leave new after ((had ++ kept.keeps.appended) ++ group ∷ []) ((had ++ kept.keeps.appended) ++ group ∷ [])
      → AtAnyMoment moment left_since old new (Survives (chain_identifier before) (had ++ kept.keeps.appended) ((had ++ kept.keeps.appended) ++ group ∷ []))
      → KeepsHistory holds may_leave moment left_since began had new after seat (count + length entries)
  history-more old new before after seat count entries group text next same kept keeps times =
      let cut = parts_same kept.changed kept.later next.earlier (next.next ++ next.later) (kept.count_is ∙ sym next.count_is) (sym kept.seen ∙ next.changed) in
      record {
        changed = kept.changed ++ next.next;
        later = next.later;
        here = kept.here;
        seen = kept.seen ∙ ap (λ (l : List Call). kept.changed ++ l) cut.1 ∙ sym (append_assoc kept.changed next.next next.later);
        count_is = length-append kept.changed next.next ∙ omega (arith, kept.count_is, entries-length entries next.next next.entries_are);
        keeps = appended-more old new before after kept.changed next.next entries group text next.entries_are same kept.keeps keeps times;
      }

  -- at its beginning a file keeps no calls
  pub begun : (old new : D) (chain : Chain) → chain_identifier chain ≡ began.identifier → moment old ≡ began.moment
      → Keeps holds may_leave new chain had had → AtAnyMoment moment left_since old new (Survives began.identifier had had)
      → KeepsCalls holds may_leave moment left_since began had new chain []
  begun old new chain identified now keeps times =
      let all : had ≡ had ++ [] = sym (append-nil had) in
      let none : AreIn [] [] = record { whole = refl; small = tt } in
      record {
        appended = [];
        kept = [];
        identified = identified;
        keeps = subst (λ (groups : List Group). Keeps holds may_leave new chain groups groups) all keeps;
        kept_in = none;
        entries = tt;
        later = omega (arith, now, times.later);
        since = λ left might. record {
          stored = [];
          appended = [];
          kept = [];
          all = [];
          made = [];
          kept_in = none;
          all_in = none;
          entries = tt;
          first = ([], refl);
          survives = subst (λ (groups : List Group). Survives began.identifier groups groups left) all (times.each left (subst (λ (t : ℕ). left_since new t left) (sym now) might));
        };
      }
