-- Entries that gather, one behind the other.
use Rattle.std.proofs.Common.{◌≡◌, ℕ, ◌+◌, ◌-◌, ◌==◌, Bool, true, false, cond, List, [], ◌∷◌, ◌++◌, length, Vec, Global, Some, None, refl, ap, sym, subst, ◌∙◌, append_assoc, length-append, arith}
use Rattle.std.proofs.lemmas.List.{map-append, length-map}
use Rattle.std.specs.Ordering.{nat_cmp, is_eq}
use Rattle.std.specs.Cmp.{unsigned_tied}
use Rattle.std.proofs.lemmas.Bool.Decides.{nat_tests}
use mathlib.Core.List.{IsPrefix}
use Rattle.std.specs.BTreeMap.{BTreeMap, get_by}
use Rattle.std.specs.Map.{lookup}
use Rattle.rtdb_model.specs.Step.{Call}
use Rattle.locked_server.specs.declared.entry.Entry.{Entry}
use Rattle.store.specs.Replay.{AreEntriesOf}
use Rattle.hall_journal.specs.Kept.{IsEntryAt}
use Rattle.locked_server.specs.History.{changed_in}
use Rattle.hall_journal.specs.Working.{texts}
use Rattle.hall_journal.specs.Gathering.{Gathers, AreAtTheirNumbers}
use Rattle.hall_journal.proofs.Growing.{parts_same, next-more, at-more}
use Rattle.hall_journal.proofs.Appending.{entries-append, entries-length}

-- where nothing has gathered, the first entry comes next
pub gathers-none : (seen : List Entry) (gathered : List (Vec ℕ Global)) → gathered ≡ [] → Gathers seen 0 gathered 1
gathers-none seen gathered none =
    let first : Gathers seen 0 [] 1 = (record { earlier = []; next = []; later = changed_in seen; changed = refl; count_is = refl; entries_are = tt }, refl) in
    subst (λ (es : List (Vec ℕ Global)). Gathers seen 0 es 1) (sym none) first

-- the entry at the number that comes next goes behind those that have gathered
pub gathers-one : (seen : List Entry) (count next : ℕ) (gathered : List (Vec ℕ Global)) (entry : Vec ℕ Global) → Gathers seen count gathered next → IsEntryAt seen next entry.items → Gathers seen count (gathered ++ entry ∷ []) (next + 1)
gathers-one seen count next gathered entry gathers at =
    let now = gathers.0 in
    let long : length (now.earlier ++ now.next) ≡ length at.earlier = omega (arith, length-append now.earlier now.next, now.count_is, entries-length (texts gathered) now.next now.entries_are, length-map gathered (λ (e : Vec ℕ Global). e.items), gathers.1, at.number_is) in
    let cut = parts_same (now.earlier ++ now.next) now.later at.earlier (at.made ∷ at.later) long (append_assoc now.earlier now.next now.later ∙ sym now.changed ∙ at.changed) in (
      record {
        earlier = now.earlier;
        next = now.next ++ at.made ∷ [];
        later = at.later;
        changed = now.changed ∙ ap (λ (l : List Call). now.earlier ++ (now.next ++ l)) cut.1 ∙ ap (λ (l : List Call). now.earlier ++ l) (sym (append_assoc now.next (at.made ∷ []) at.later));
        count_is = now.count_is;
        entries_are = subst (λ (es : List (List ℕ)). AreEntriesOf es (now.next ++ at.made ∷ [])) (sym (map-append (λ (e : Vec ℕ Global). e.items) gathered (entry ∷ []))) (entries-append (texts gathered) (entry.items ∷ []) now.next (at.made ∷ []) now.entries_are ((at.deployed, at.means), tt));
      },
      omega (arith, gathers.1, length-append gathered (entry ∷ [])),
    )

-- what has gathered is taken, and nothing has gathered behind it
pub gathers-taken : (seen : List Entry) (count next : ℕ) (gathered left : List (Vec ℕ Global)) → left ≡ [] → Gathers seen count gathered next → Gathers seen (next - 1) left next
gathers-taken seen count next gathered left none gathers =
    let now = gathers.0 in
    let taken : Gathers seen (next - 1) [] next = (
      record {
        earlier = now.earlier ++ now.next;
        next = [];
        later = now.later;
        changed = now.changed ∙ sym (append_assoc now.earlier now.next now.later);
        count_is = omega (arith, length-append now.earlier now.next, now.count_is, entries-length (texts gathered) now.next now.entries_are, length-map gathered (λ (e : Vec ℕ Global). e.items), gathers.1);
        entries_are = tt;
      },
      omega (arith, gathers.1),
    ) in
    subst (λ (es : List (Vec ℕ Global)). Gathers seen (next - 1) es next) (sym none) taken

pub gathers-more : (seen all : List Entry) (count next : ℕ) (gathered : List (Vec ℕ Global)) → IsPrefix seen all → Gathers seen count gathered next → Gathers all count gathered next
gathers-more seen all count next gathered first gathers = (next-more seen all count (texts gathered) first gathers.0, gathers.1)

pub early-more : (seen all : List Entry) (early : BTreeMap ℕ (Vec ℕ Global)) → IsPrefix seen all → AreAtTheirNumbers seen early → AreAtTheirNumbers all early
early-more seen all early first are number entry found = at-more seen all number entry.items first (are number entry found)

-- where there are none, each stands at its number
pub early-none : (seen : List Entry) (early : BTreeMap ℕ (Vec ℕ Global)) → early.entries ≡ [] → AreAtTheirNumbers seen early
early-none seen early none number entry found =
    let never : None ≡ Some entry = ap (λ (es : List (ℕ × Vec ℕ Global)). lookup (λ k. is_eq (nat_cmp number k)) es) (sym none) ∙ found in
    absurd (cc never)

-- without one of them, the others stand at their numbers
pub early-less : (seen : List Entry) (early left : BTreeMap ℕ (Vec ℕ Global)) (taken : ℕ) → ((q : ℕ) → get_by (nat_cmp q) left ≡ cond (is_eq (nat_cmp taken q)) None (get_by (nat_cmp q) early)) → AreAtTheirNumbers seen early → AreAtTheirNumbers seen left
early-less seen early left taken less are number entry found = by (is_eq (nat_cmp taken number)) (sym (less number) ∙ found)
  where
    by : (b : Bool) → cond b None (get_by (nat_cmp number) early) ≡ Some entry → IsEntryAt seen number entry.items
    by true is = absurd cc
    by false is = are number entry is

-- one more among them stands at its number
pub early-one : (seen : List Entry) (early with : BTreeMap ℕ (Vec ℕ Global)) (put : ℕ) (entry : Vec ℕ Global)
    → ((q : ℕ) → get_by (nat_cmp q) with ≡ cond (is_eq (nat_cmp put q)) (Some entry) (get_by (nat_cmp q) early)) → IsEntryAt seen put entry.items → AreAtTheirNumbers seen early → AreAtTheirNumbers seen with
early-one seen early with put entry more at are number other found = by (is_eq (nat_cmp put number)) refl (sym (more number) ∙ found)
  where
    by : (b : Bool) → is_eq (nat_cmp put number) ≡ b → cond b (Some entry) (get_by (nat_cmp number) early) ≡ Some other → IsEntryAt seen number other.items
    by true here is =
        let same : (put == number) ≡ true = sym (unsigned_tied put number) ∙ here in
        let numbers : put ≡ number = grind (arith, nat_tests) in
        let entries : entry ≡ other = cc is in
        subst (λ (e : Vec ℕ Global). IsEntryAt seen number e.items) entries (subst (λ (n : ℕ). IsEntryAt seen n entry.items) numbers at)
    by false here is = are number other is

-- those that a map has, one with the same entries has
pub early-same : (seen : List Entry) (early other : BTreeMap ℕ (Vec ℕ Global)) → other.entries ≡ early.entries → AreAtTheirNumbers seen early → AreAtTheirNumbers seen other
early-same seen early other same are number entry found = are number entry (ap (λ (es : List (ℕ × Vec ℕ Global)). lookup (λ k. is_eq (nat_cmp number k)) es) (sym same) ∙ found)
