-- What a limit keeps does not change where some are left out that it does not keep.
use Rattle.std.proofs.Common.{◌≡◌, ℕ, ◌≤◌, ◌<◌, ◌⊎◌, nat_lt, Bool, true, false, ◌&&◌, List, length, map, filter, Option, Some, None, Ordering, Less, Equal, Greater, is_lt, is_gt, ⊎_elim, sym, ap, ◌∙◌, refl, arith}
use Rattle.std.specs.List.{AllByRecursion}
use Rattle.std.specs.Cmp.{first_so, second_so}
use Rattle.std.proofs.lemmas.Bool.{cases_Bool, cases_lt, le-ltb, ltb-false, and_from, false_from_ne_true}
use Rattle.listeners.specs.Working.Ranks.{Rank, rank_cmp, is_kept_of, count_before, count_behind}
use Rattle.listeners.proofs.Bounding.{length-filter_le}
use Rattle.listeners.proofs.Counts.{filter-map, filter-filter, count-map, filter_each, each_weaker}
use Rattle.listeners.proofs.Edges.{gt_is_lt, below_less}

module _ {E : Type 0} (f : E → ℕ × Rank) (look p : E → Bool) (es : List E) where
  abbrev both : E → Bool
  both e = look e && p e

  abbrev pub full : List (ℕ × Rank)
  full = map f (filter p es)

  abbrev pub thin : List (ℕ × Rank)
  thin = map f (filter both es)

  -- ---- by counts on one side

  module _ (less : Rank → Rank → Bool) (trans : (a b c : Rank) → less a b ≡ true → less b c ≡ true → less a c ≡ true) (n : ℕ) where
    abbrev count : Rank → List (ℕ × Rank) → ℕ
    count r rs = length (filter (λ (s : ℕ × Rank). less s.1 r) rs)

    counted : (q : E → Bool) (r : Rank) → count r (map f (filter q es)) ≡ length (filter (λ e. q e && less (f e).1 r) es)
    counted q r = count-map f (λ (s : ℕ × Rank). less s.1 r) (filter q es) ∙ ap length (filter-filter (λ e. less (f e).1 r) q es)

    fewer_thin : (r : Rank) → count r thin ≤ count r full
    fewer_thin r = omega (
      arith,
      counted both r,
      counted p r,
      length-filter_le (λ e. both e && less (f e).1 r) (λ e. p e && less (f e).1 r) (λ e h. and_from (p e) (less (f e).1 r) (second_so (look e) (p e) (first_so (both e) (less (f e).1 r) h)) (second_so (both e) (less (f e).1 r) h)) es,
    )

    -- what is before one is before all behind it
    further : (r s : Rank) → less r s ≡ true → count r thin ≤ count s thin
    further r s up = length-filter_le (λ (u : ℕ × Rank). less u.1 r) (λ (u : ℕ × Rank). less u.1 s) (λ u h. trans u.1 r s h up) thin

    module _ (lost : AllByRecursion (λ e. look e ≡ false → p e ≡ true → n ≤ count (f e).1 thin) es) where
      none_lost : (r : Rank) → count r thin < n → (e : E) → (look e ≡ false → p e ≡ true → n ≤ count (f e).1 thin) → both e && less (f e).1 r ≡ p e && less (f e).1 r
      none_lost r few e h = ⊎_elim
          (λ looked. ap (λ b. (b && p e) && less (f e).1 r) looked)
          (λ left.
          ap (λ b. (b && p e) && less (f e).1 r) left
          ∙ sym (false_from_ne_true (p e && less (f e).1 r) (λ is.
          let many = h left (first_so (p e) (less (f e).1 r) is) in
          let up = further (f e).1 r (second_so (p e) (less (f e).1 r) is) in
          absurd (omega arith))))
          (cases_Bool (look e))

      pub same_test : (r : Rank) → nat_lt (count r full) n ≡ nat_lt (count r thin) n
      same_test r = ⊎_elim
          (λ few.
          let same : count r thin ≡ count r full = counted both r ∙ ap length (filter_each (λ e. both e && less (f e).1 r) (λ e. p e && less (f e).1 r) es (each_weaker (λ e. look e ≡ false → p e ≡ true → n ≤ count (f e).1 thin) (λ e. both e && less (f e).1 r ≡ p e && less (f e).1 r) (none_lost r few) es lost)) ∙ sym (counted p r) in
          ap (λ c. nat_lt c n) (sym same))
          (λ many.
          let fewer = fewer_thin r in
          le-ltb (count r full) n (omega arith) ∙ sym (le-ltb (count r thin) n many))
          (cases_lt (count r thin) n)

  -- ---- by both limits, of which there is one

  before_trans : (a b c : Rank) → is_lt (rank_cmp a b) ≡ true → is_lt (rank_cmp b c) ≡ true → is_lt (rank_cmp a c) ≡ true
  before_trans a b c low up = below_less a b c (not_gt (rank_cmp a b) low) up
    where
      not_gt : (o : Ordering) → is_lt o ≡ true → is_gt o ≡ false
      not_gt Less h = refl
      not_gt Equal h = cc
      not_gt Greater h = cc

  behind_trans : (a b c : Rank) → is_gt (rank_cmp a b) ≡ true → is_gt (rank_cmp b c) ≡ true → is_gt (rank_cmp a c) ≡ true
  behind_trans a b c up low = gt_is_lt a c ∙ before_trans c b a (sym (gt_is_lt b c) ∙ low) (sym (gt_is_lt a b) ∙ up)

  abbrev Lost : Option ℕ → Option ℕ → E → Type 0
  Lost first last e = look e ≡ false → p e ≡ true → is_kept_of first last thin (f e).1 ≡ false

  -- whether a rank is kept is the same in both
  pub same_kept : (first last : Option ℕ) → (first ≡ None) ⊎ (last ≡ None) → AllByRecursion (Lost first last) es → (r : Rank) → is_kept_of first last full r ≡ is_kept_of first last thin r
  same_kept None None one lost r = refl
  same_kept (Some n) None one lost r = ap (λ b. b && true) (same_test (λ a b. is_lt (rank_cmp a b)) before_trans n
      (each_weaker (Lost (Some n) None) (λ e. look e ≡ false → p e ≡ true → n ≤ count_before (f e).1 thin) (λ e h left within. ltb-false (count_before (f e).1 thin) n (and_true (nat_lt (count_before (f e).1 thin) n) (h left within))) es lost) r)
    where
      and_true : (b : Bool) → b && true ≡ false → b ≡ false
      and_true true h = h
      and_true false h = refl
  same_kept None (Some n) one lost r = same_test (λ a b. is_gt (rank_cmp a b)) behind_trans n
      (each_weaker (Lost None (Some n)) (λ e. look e ≡ false → p e ≡ true → n ≤ count_behind (f e).1 thin) (λ e h left within. ltb-false (count_behind (f e).1 thin) n (h left within)) es lost) r
  same_kept (Some n) (Some m) one lost r = ⊎_elim (λ none. cc) (λ none. cc) one

  -- what is kept is listed in both
  pub kept_thin : (first last : Option ℕ) → (first ≡ None) ⊎ (last ≡ None) → AllByRecursion (Lost first last) es
      → filter (λ (s : ℕ × Rank). is_kept_of first last thin s.1) thin ≡ filter (λ (s : ℕ × Rank). is_kept_of first last full s.1) full
  kept_thin first last one lost =
      filter-map f (λ (s : ℕ × Rank). is_kept_of first last thin s.1) (filter both es)
      ∙ ap (map f) (filter-filter (λ e. is_kept_of first last thin (f e).1) both es
      ∙ filter_each (λ e. both e && is_kept_of first last thin (f e).1) (λ e. p e && is_kept_of first last full (f e).1) es (each_weaker (Lost first last) (λ e. both e && is_kept_of first last thin (f e).1 ≡ p e && is_kept_of first last full (f e).1) each es lost)
      ∙ sym (filter-filter (λ e. is_kept_of first last full (f e).1) p es))
      ∙ sym (filter-map f (λ (s : ℕ × Rank). is_kept_of first last full s.1) (filter p es))
    where
      each : (e : E) → Lost first last e → both e && is_kept_of first last thin (f e).1 ≡ p e && is_kept_of first last full (f e).1
      each e h = ⊎_elim
          (λ looked. ap (λ b. (b && p e) && is_kept_of first last thin (f e).1) looked ∙ ap (λ b. p e && b) (sym (same_kept first last one lost (f e).1)))
          (λ left.
          ap (λ b. (b && p e) && is_kept_of first last thin (f e).1) left
          ∙ sym (⊎_elim
          (λ inside. (λ i. inside i && same_kept first last one lost (f e).1 i) ∙ h left inside)
          (λ outside. ap (λ b. b && is_kept_of first last full (f e).1) outside)
          (cases_Bool (p e))))
          (cases_Bool (look e))
