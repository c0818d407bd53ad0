-- Who has seen more of a history knows the same of it; and whoever takes in a seat that made no call has the calls that it had.
use Rattle.std.proofs.Common.{◌≡◌, inl, inr, ℕ, List, [], ◌∷◌, ◌++◌, length, refl, ap, sym, subst, ◌∙◌, append_assoc, arith}
use mathlib.Core.List.{IsPrefix}
use Rattle.rtdb_model.specs.Step.{Call}
use Rattle.locked_server.specs.declared.entry.Entry.{Entry}
use Rattle.locked_server.specs.History.{Shuffled}
use Rattle.locked_server.specs.Known.{Known, SeesMore, Met, own}
use Rattle.journal.specs.Format.{Group}
use Rattle.journal.specs.declared.chain.Chain.{Chain}
use Rattle.hall_journal.specs.Kept.{Began, IsAt, OnlyLooks, IsEntryAt, KeepsHistory}
use Rattle.hall_journal.specs.Working.{AreNext}
use Rattle.locked_server.proofs.Changes.{changed_stays}

-- ---- lists

-- two ways to cut a list at one place are one
pub parts_same : {A : Type 0} (xs ys zs ws : List A) → length xs ≡ length zs → xs ++ ys ≡ zs ++ ws → (xs ≡ zs) × (ys ≡ ws)
parts_same [] ys [] ws long same = (refl, same)
parts_same [] ys (z ∷ zs) ws long same = absurd (omega (arith, long))
parts_same (x ∷ xs) ys [] ws long same = absurd (omega (arith, long))
parts_same (x ∷ xs) ys (z ∷ zs) ws long same =
    let heads : x ≡ z = cc same in
    let rest = parts_same xs ys zs ws (omega (arith, long)) (cc same) in
    (cc (heads, rest.0), rest.1)

-- what is shuffled with nothing stays as it is
pub shuffled-none : {A : Type 0} (xs zs : List A) → Shuffled xs [] zs → zs ≡ xs
unfolding Shuffled
shuffled-none xs [] both = sym both.0
shuffled-none {A} xs (z ∷ zs) (inl first) = ap (λ (l : List A). z ∷ l) (shuffled-none first.0 zs first.2) ∙ sym first.1
shuffled-none xs (z ∷ zs) (inr second) = absurd (cc (second.1))

-- ---- what was seen

pub next-more : (seen all : List Entry) (count : ℕ) (entries : List (List ℕ)) → IsPrefix seen all → AreNext seen count entries → AreNext all count entries
next-more seen all count entries first next =
    let more = changed_stays seen all first in
    record {
      earlier = next.earlier;
      next = next.next;
      later = next.later ++ more.0;
      changed = more.1 ∙ ap (λ (l : List Call). l ++ more.0) next.changed ∙ append_assoc next.earlier (next.next ++ next.later) more.0 ∙ ap (λ (l : List Call). next.earlier ++ l) (append_assoc next.next next.later more.0);
      count_is = next.count_is;
      entries_are = next.entries_are;
    }

pub at-more : (seen all : List Entry) (number : ℕ) (entry : List ℕ) → IsPrefix seen all → IsEntryAt seen number entry → IsEntryAt all number entry
at-more seen all number entry first at =
    let more = changed_stays seen all first in
    record {
      earlier = at.earlier;
      made = at.made;
      later = at.later ++ more.0;
      deployed = at.deployed;
      changed = more.1 ∙ ap (λ (l : List Call). l ++ more.0) at.changed ∙ append_assoc at.earlier (at.made ∷ at.later) more.0;
      number_is = at.number_is;
      means = at.means;
    }

-- a file keeps the same, whoever has seen more
pub keeps-more : {D : Type 0} (holds may_leave : D → List ℕ → Type 0) (moment : D → ℕ) (left_since : D → ℕ → List ℕ → Type 0) (began : Began) (had : List Group) (disk : D) (chain : Chain) (seat other : Known) (count : ℕ)
    → IsAt began other → IsPrefix seat.seen other.seen → KeepsHistory holds may_leave moment left_since began had disk chain seat count → KeepsHistory holds may_leave moment left_since began had disk chain other count
keeps-more holds may_leave moment left_since began had disk chain seat other count here first kept =
    let more = changed_stays seat.seen other.seen first in
    record {
      changed = kept.changed;
      later = kept.later ++ more.0;
      here = here;
      seen = more.1 ∙ ap (λ (l : List Call). l ++ more.0) kept.seen ∙ append_assoc kept.changed kept.later more.0;
      count_is = kept.count_is;
      keeps = kept.keeps;
    }

-- ---- seats that meet

-- a seat that only looks has its own calls none, and takes in none
pub looks-met : (began : Began) (k other l : Known) → OnlyLooks began k → own other ≡ [] → l.hall ≡ k.hall → l.opening ≡ k.opening → Met k other l → OnlyLooks began l
looks-met began k other l looks others hall opening met =
    ((hall ∙ looks.0.0, opening ∙ looks.0.1), shuffled-none [] (own l) (subst (λ (xs : List Entry). Shuffled xs [] (own l)) looks.1 (subst (λ (ys : List Entry). Shuffled (own k) ys (own l)) others met.2)))

-- whoever takes it in has seen more
pub sees-met : (began : Began) (k other l : Known) → OnlyLooks began other → Met k other l → SeesMore k l
sees-met began k other l others met = (met.0, shuffled-none (own k) (own l) (subst (λ (ys : List Entry). Shuffled (own k) ys (own l)) others.1 met.2))

-- whoever sees more, and then more, sees more
pub sees-on : (k l m : Known) → SeesMore k l → SeesMore l m → SeesMore k m
sees-on k l m first then = ((first.0.0 ++ then.0.0, sym (append_assoc k.seen first.0.0 then.0.0) ∙ ap (λ (es : List Entry). es ++ then.0.0) first.0.1 ∙ then.0.1), then.1 ∙ first.1)
