-- The exchange that adds marks keeps the count.
use Rattle.std.proofs.Common.{◌≡◌, ℕ, zero, suc, ◌-◌, ◌<◌, ◌≤◌, ◌==◌, Bool, true, false, List, [], ◌∷◌, ◌++◌, length, refl, ap, sym, subst, arith, inl, length-append, None}
use Rattle.std.proofs.lemmas.List.{append-nil}
use Rattle.std.proofs.lemmas.Bool.Decides.{nat_tests}
use prog.Atomic.{either}
use Rattle.logbook.specs.Pages.{Cell, cell, keeps, no_nib, step, Moves, Goes}
use Rattle.hall_journal.specs.declared.counter.Mark.{Mark}
use Rattle.hall_journal.specs.Counting.{IsCount, HasAdded}

-- so many of one mark
abbrev many : Mark → ℕ → List Mark
many e zero = []
many e (suc n) = e ∷ many e n

length-many : (e : Mark) (n : ℕ) → length (many e n) ≡ n
length-many e zero = refl
length-many e (suc n) = ap suc (length-many e n)

abbrev pub no_marks : List Mark → List Mark
no_marks log = []

abbrev pub freely : List Mark → List Mark → ℕ → Type 0
freely xs ys n = Unit {0}

added : (log v : List Mark) (e : Mark) (old new : ℕ) → old ≤ new → (b : Bool) → (length log == old) ≡ b
    → Goes IsCount no_marks freely 0 (v, (no_nib, None)) (λ n. either (n == old) new n) (HasAdded (step 0 old new e) (v, (no_nib, None))) ((length log, true) ∷ (0, true) ∷ []) log
added log v e old new le true is =
    let here : length log ≡ old = grind (arith, nat_tests) in
    let long : length (log ++ many e (new - old)) ≡ new = omega (arith, length-append log (many e (new - old)), length-many e (new - old), here) in (
      keeps,
      many e (new - old),
      None,
      tt,
      rw is (ap (λ (k : ℕ). (k, true) ∷ (0, true) ∷ []) (sym long)),
      inl (refl, refl),
      rw is long,
    )
added log v e old new le false is =
    let all : length (log ++ []) ≡ length log = ap length (append-nil log) in (
      keeps,
      [],
      None,
      tt,
      rw is (ap (λ (k : ℕ). (k, true) ∷ (0, true) ∷ []) (sym all)),
      inl (refl, refl),
      rw is all,
    )

-- whatever the book is, the exchange adds as many marks as were to be, or finds another number
pub adds_moves : (v : List Mark) (e : Mark) (old new : ℕ) → old ≤ new
    → Moves IsCount no_marks freely 0 (v, (no_nib, None)) (λ n. either (n == old) new n) (HasAdded (step 0 old new e) (v, (no_nib, None)))
adds_moves v e old new le cells log kept first away =
    let P : List Cell → Type 0 = λ cs. (0 < length cs) × ((cell cs 0).1 ≡ true) × Goes IsCount no_marks freely 0 (v, (no_nib, None)) (λ n. either (n == old) new n) (HasAdded (step 0 old new e) (v, (no_nib, None))) cs log in
    subst P (sym kept) (omega arith, refl, added log v e old new le (length log == old) refl)
