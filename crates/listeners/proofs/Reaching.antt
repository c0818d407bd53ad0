-- What lies within bounds by keys, as it is found among keys in the order of their bytes.
use Rattle.std.proofs.Common.{◌≡◌, ℕ, true, false, not, ◌&&◌, List, length, get_or, max, min, Option, Some, None, Ordering, Less, Equal, Greater, is_lt, is_gt, is_eq, true≢false, ⊎_elim, sym, ap, ◌∙◌, refl, arith}
use Rattle.std.specs.Cmp.{tied_itself}
use Rattle.std.specs.Ordering.{ordering_then}
use Rattle.std.proofs.lemmas.Bool.{and_left, and_right, and_from, cases_lt, false_from_ne_true}
use Rattle.tree_model.specs.Key.{Key, key_cmp}
use Rattle.tree_model.specs.Tree.{Tree, child_keys}
use Rattle.tree_model.proofs.Orders.{keys_total, exact_keys}
use Rattle.arena_snapshot.specs.Working.Change.{entries_of}
use Rattle.arena_snapshot.proofs.Ranks.{width-entries}
use Rattle.listeners.specs.Order.{number_of, numbered_cmp, length_cmp}
use Rattle.listeners.specs.Selection.{Child}
use Rattle.listeners.specs.Working.Ranks.{keyed, keyed_cmp}
use Rattle.listeners.specs.declared.search.Side.TheVariants.{Before, UpTo}
use Rattle.listeners.specs.declared.reach.Span.{Span}
use Rattle.listeners.specs.declared.reach.Reach.{Reach}
use Rattle.listeners.specs.Working.Reach.{is_on, IsCount, AreDigits, passes_start, passes_end, passes_equal, passes, IsStart, IsEnd, IsEqual, IsReach}
use Rattle.listeners.proofs.Orders.{keyed_total, then_tied}

-- ---- without a bound

pub end_none : (t : Tree) (n : ℕ) → n ≡ length (child_keys t) → IsEnd (entries_of t) None n
end_none t n wide =
    let same = width-entries t in
    record { within = omega arith; upto = λ i d low inside none. refl; behind = λ i d past inside none. absurd (omega arith) }

pub equal_none : (t : Tree) (span : Span) → span.from ≡ 0 → span.to ≡ length (child_keys t) → IsEqual (entries_of t) None span
equal_none t span first wide =
    let same = width-entries t in
    record {
      within = omega arith;
      before = λ i d low inside. absurd (omega arith);
      inside = λ i d past low inside. refl;
      behind = λ i d past inside. absurd (omega arith);
    }

-- ---- the one key

equal_key : (k l : Key) → is_eq (keyed_cmp (keyed k) (keyed l)) ≡ true → k ≡ l
equal_key k l same = exact_keys k l (then_tied (length_cmp (number_of k) k l) (key_cmp k l) (then_tied (numbered_cmp (number_of k) (number_of l)) (ordering_then (length_cmp (number_of k) k l) (key_cmp k l)) (tied (keyed_cmp (keyed k) (keyed l)) same)))
  where
    tied : (o : Ordering) → is_eq o ≡ true → o ≡ Equal
    tied Less h = cc
    tied Equal h = refl
    tied Greater h = cc

neither : (o : Ordering) → is_lt o ≡ false → not (is_gt o) ≡ true → o ≡ Equal
neither Less h g = cc
neither Equal h g = refl
neither Greater h g = cc

pub equal_some : (cs : List Child) (key : Key) (span : Span) → IsCount cs (is_on Before key) span.from → IsCount cs (is_on UpTo key) span.to → IsEqual cs (Some key) span
equal_some cs key span few many = record {
  within = many.within;
  before = λ i d low inside. other (get_or cs i d).0 (λ same. true≢false (sym (few.before i d low) ∙ ap is_lt (itself (get_or cs i d).0 same)));
  inside = λ i d past low inside. alike (get_or cs i d).0 (exact_keys (get_or cs i d).0 key (neither (key_cmp (get_or cs i d).0 key) (few.behind i d past inside) (many.before i d low)));
  behind = λ i d past inside. other (get_or cs i d).0 (λ same. true≢false (ap (λ o. not (is_gt o)) (sym (itself (get_or cs i d).0 same)) ∙ many.behind i d past inside));
}
  where
    itself : (k : Key) → k ≡ key → key_cmp k key ≡ Equal
    itself k same = ap (λ l. key_cmp l key) same ∙ tied_itself keys_total key

    other : (k : Key) → (k ≡ key → ⊥) → is_eq (keyed_cmp (keyed k) (keyed key)) ≡ false
    other k apart = false_from_ne_true (is_eq (keyed_cmp (keyed k) (keyed key))) (λ same. apart (equal_key k key same))

    alike : (k : Key) → k ≡ key → is_eq (keyed_cmp (keyed k) (keyed key)) ≡ true
    alike k same = ap (λ l. is_eq (keyed_cmp (keyed l) (keyed key))) same ∙ ap is_eq (tied_itself keyed_total (keyed key))

-- ---- all three bounds

module _ (cs : List Child) (start_at end_at equal_to : Option Key) (reach : Reach) (first last : ℕ) (span : Span)
    (digits : AreDigits cs reach.digits) (start : IsStart cs start_at first) (end : IsEnd cs end_at last) (equal : IsEqual cs equal_to span)
    (from_is : reach.from ≡ max first span.from) (texts_is : reach.texts_to ≡ min last span.to) (to_is : reach.to ≡ span.to) where
  abbrev key : ℕ → Child → Key
  key i d = (get_or cs i d).0

  fails_start : (k : Key) → passes_start start_at k ≡ false → passes start_at end_at equal_to k ≡ false
  fails_start k fails = and_left _ _ (and_left _ _ fails)

  fails_end : (k : Key) → passes_end end_at k ≡ false → passes start_at end_at equal_to k ≡ false
  fails_end k fails = and_left _ _ (and_right (passes_start start_at k) _ fails)

  fails_equal : (k : Key) → passes_equal equal_to k ≡ false → passes start_at end_at equal_to k ≡ false
  fails_equal k fails = and_right (passes_start start_at k && passes_end end_at k) _ fails

  pub of_bounds : IsReach cs (passes start_at end_at equal_to) reach
  of_bounds =
      let wide = end.within in
      record {
        digits = digits;
        order = omega arith;
        within = omega arith;
        before = λ i d low inside. ⊎_elim
            (λ less. fails_start (key i d) (start.before i d less inside))
            (λ past. fails_equal (key i d) (equal.before i d (omega arith) inside))
            (cases_lt i first);
        inside = λ i d past low inside none. and_from _ _
            (and_from _ _ (start.from i d (omega arith) inside none) (end.upto i d (omega arith) inside none))
            (equal.inside i d (omega arith) (omega arith) inside);
        texts = λ i d past inside none. ⊎_elim
            (λ less. fails_equal (key i d) (equal.behind i d (omega arith) inside))
            (λ far. fails_end (key i d) (end.behind i d far inside none))
            (cases_lt i last);
        behind = λ i d past inside. fails_equal (key i d) (equal.behind i d (omega arith) inside);
      }
