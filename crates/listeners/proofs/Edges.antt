-- The edge of a limit: which children lie inside it.
use Rattle.std.proofs.Common.{◌≡◌, ℕ, suc, ◌+◌, ◌-◌, ◌≤◌, ◌<◌, true, false, not, ◌&&◌, List, ◌∷◌, ◌++◌, length, map, get_or, filter, Some, None, Ordering, Less, Equal, Greater, is_lt, is_gt, sym, ap, ◌∙◌, refl, arith}
use Rattle.std.specs.Ordering.{ordering_reverse}
use Rattle.std.proofs.Common.{true≢false, ⊎_elim}
use Rattle.std.proofs.lemmas.Bool.{lt-ltb, le-ltb, false_from_ne_true, cases_Bool, cases_lt}
use Rattle.std.specs.Cmp.{tied_itself}
use Rattle.std.specs.List.Sorted.{IsPermutation, IsSorted, IsSplitAroundBy}
use Rattle.std.proofs.lemmas.List.{get_or_default, get_or_at, get_or_append_left, get_or-append_right, length-append}
use Rattle.std.proofs.lemmas.List.Sorted.{ranks_by, sorted_far, length_permutation, IsPermutation-refl}
use Rattle.listeners.specs.declared.item.Item.{Item}
use Rattle.listeners.specs.declared.edge.Edge.TheVariants.{UpTo, FromOn}
use Rattle.listeners.specs.Working.Items.{item_seen, rank_seen, item_cmp, StandsAt, lies_inside}
use Rattle.listeners.specs.Working.Ranks.{Rank, rank_cmp, count_before, count_behind, is_kept_of}
use Rattle.listeners.proofs.Orders.{rank_total}
use Rattle.listeners.proofs.Counts.{none_behind, all_before, none_before, all_behind, fewer, count-permutation, count-map}

is_gt-reverse : (o : Ordering) → is_gt (ordering_reverse o) ≡ is_lt o
is_gt-reverse Less = refl
is_gt-reverse Equal = refl
is_gt-reverse Greater = refl

is_lt-reverse : (o : Ordering) → is_lt (ordering_reverse o) ≡ is_gt o
is_lt-reverse Less = refl
is_lt-reverse Equal = refl
is_lt-reverse Greater = refl

pub gt_is_lt : (r s : Rank) → is_gt (rank_cmp r s) ≡ is_lt (rank_cmp s r)
gt_is_lt r s = ap is_gt (rank_total.antisymm r s) ∙ is_gt-reverse (rank_cmp s r)

lt_is_gt : (r s : Rank) → is_lt (rank_cmp r s) ≡ is_gt (rank_cmp s r)
lt_is_gt r s = ap is_lt (rank_total.antisymm r s) ∙ is_lt-reverse (rank_cmp s r)

-- what is not behind s stands before what is behind it
pub below_less : (r s u : Rank) → is_gt (rank_cmp r s) ≡ false → is_lt (rank_cmp s u) ≡ true → is_lt (rank_cmp r u) ≡ true
below_less r s u up less = by_order (rank_cmp r s) (rank_cmp s u) refl refl up less
  where
    by_order : (o p : Ordering) → rank_cmp r s ≡ o → rank_cmp s u ≡ p → is_gt o ≡ false → is_lt p ≡ true → is_lt (rank_cmp r u) ≡ true
    by_order Less Less o_is p_is h g = ap is_lt (rank_total.trans r s u o_is p_is)
    by_order Equal Less o_is p_is h g = ap is_lt (rank_total.congr r s u o_is ∙ p_is)
    by_order Greater p o_is p_is h g = cc
    by_order Less Equal o_is p_is h g = cc
    by_order Less Greater o_is p_is h g = cc
    by_order Equal Equal o_is p_is h g = cc
    by_order Equal Greater o_is p_is h g = cc

-- what is before s stands before what is not before s
less_below : (r s u : Rank) → is_lt (rank_cmp r s) ≡ true → is_gt (rank_cmp s u) ≡ false → is_lt (rank_cmp r u) ≡ true
less_below r s u less up = by_order (rank_cmp s u) refl up
  where
    by_order : (o : Ordering) → rank_cmp s u ≡ o → is_gt o ≡ false → is_lt (rank_cmp r u) ≡ true
    by_order Less o_is h = below_less r s u (not_gt (rank_cmp r s) less) (ap is_lt o_is)
      where
        not_gt : (p : Ordering) → is_lt p ≡ true → is_gt p ≡ false
        not_gt Less g = refl
        not_gt Equal g = cc
        not_gt Greater g = cc
    by_order Equal o_is h = ap is_lt (sym (alike r)) ∙ less
      where
        alike : (r : Rank) → rank_cmp r s ≡ rank_cmp r u
        alike r = rank_total.antisymm r s ∙ ap ordering_reverse (rank_total.congr s u r o_is) ∙ sym (rank_total.antisymm r u)
    by_order Greater o_is h = cc

-- what is not behind s is not behind anything that s is not behind
not_less_through : (r s u : Rank) → is_gt (rank_cmp r s) ≡ false → is_lt (rank_cmp u s) ≡ false → is_lt (rank_cmp u r) ≡ false
not_less_through r s u up far = false_from_ne_true (is_lt (rank_cmp u r)) (λ less. true≢false (sym (less_below u r s less up) ∙ far))

not_greater_through : (r s u : Rank) → is_lt (rank_cmp r s) ≡ false → is_lt (rank_cmp s u) ≡ false → is_gt (rank_cmp u r) ≡ false
not_greater_through r s u up far = false_from_ne_true (is_gt (rank_cmp u r)) (λ more. true≢false (sym (less_below r u s (sym (gt_is_lt u r) ∙ more) (gt_is_lt u s ∙ far)) ∙ up))

-- in a list that is in order each item stands where it is
pub stands_in_order : (items : List Item) (i : ℕ) (item : Item) → IsSorted item_cmp items → i < length items → item ≡ get_or items i item → StandsAt items i item
stands_in_order items i item sorted within at = record {
  ordered = items;
  permutation = IsPermutation-refl items;
  within = within;
  at = at;
  before = λ k d le. ap (λ r. is_lt (rank_cmp r (rank_seen (get_or items k d)))) (sym (here d)) ∙ far k i d le within;
  behind = λ k d le lt. ap (λ r. is_lt (rank_cmp (rank_seen (get_or items k d)) r)) (sym (here d)) ∙ far i k d le lt;
}
  where
    here : (d : Item) → rank_seen (get_or items i d) ≡ rank_seen item
    here d = ap rank_seen (get_or_default items i d item within ∙ sym at)

    far : (j k : ℕ) (d : Item) → j ≤ k → k < length items → is_lt (rank_cmp (rank_seen (get_or items k d)) (rank_seen (get_or items j d))) ≡ false
    far j k d le lt = sorted_far (λ a b. is_lt (item_cmp a b)) (ranks_by rank_total rank_seen) items sorted j k d le lt

-- between items that are not behind it, and items that are not before it
pub stands_between : (items front back : List Item) (i : ℕ) (item : Item) → IsPermutation items (front ++ item ∷ back) → length front ≡ i → IsSplitAroundBy (λ a b. is_lt (item_cmp a b)) front item back → StandsAt items i item
stands_between items front back i item permutation long split = record {
  ordered = front ++ item ∷ back;
  permutation = permutation;
  within = omega (arith, length-append front (item ∷ back));
  at = sym (get_or_at front item back item i long);
  before = λ k d le. ⊎_elim (λ less. ap (λ x. is_lt (item_cmp item x)) (get_or_append_left front (item ∷ back) d k (omega arith)) ∙ split.0 k d (omega arith)) (λ far. ap (λ x. is_lt (item_cmp item x)) (get_or_at front item back d k (omega arith)) ∙ itself) (cases_lt k i);
  behind = λ k d le lt. ⊎_elim (λ less. ap (λ x. is_lt (item_cmp x item)) (later k d less) ∙ split.1 (k - (i + 1)) d (omega (arith, length-append front (item ∷ back)))) (λ near. ap (λ x. is_lt (item_cmp x item)) (get_or_at front item back d k (omega arith)) ∙ itself) (cases_lt i k);
}
  where
    itself : is_lt (item_cmp item item) ≡ false
    itself = ap is_lt (tied_itself rank_total (rank_seen item))

    later : (k : ℕ) (d : Item) → i < k → get_or (front ++ item ∷ back) k d ≡ get_or back (k - (i + 1)) d
    later k d less =
        get_or-append_right front (item ∷ back) i k d long (omega arith)
        ∙ (let steps : k - i ≡ suc (k - (i + 1)) = omega arith in ap (λ n. get_or (item ∷ back) n d) steps)

module _ (items : List Item) (i : ℕ) (item : Item) (at : StandsAt items i item) where
  abbrev rank_at : ℕ → Item → Rank
  rank_at k d = rank_seen (get_or at.ordered k d)

  -- what stands from here on is not before it, and what stands up to here not behind it
  from_here : (k : ℕ) (d : Item) → i ≤ k → k < length at.ordered → is_lt (rank_cmp (rank_at k d) (rank_seen item)) ≡ false
  from_here = at.behind

  to_here : (k : ℕ) (d : Item) → k ≤ i → is_lt (rank_cmp (rank_seen item) (rank_at k d)) ≡ false
  to_here = at.before

  long : length at.ordered ≡ length items
  long = length_permutation items at.ordered at.permutation

  -- the counts of the list are those of the items in order
  before_ordered : (r : Rank) → count_before r (map item_seen items) ≡ length (filter (λ it. is_lt (rank_cmp (rank_seen it) r)) at.ordered)
  before_ordered r = count-map item_seen (λ s. is_lt (rank_cmp s.1 r)) items ∙ sym (count-permutation (λ it. is_lt (rank_cmp (rank_seen it) r)) items at.ordered at.permutation)

  behind_ordered : (r : Rank) → count_behind r (map item_seen items) ≡ length (filter (λ it. is_gt (rank_cmp (rank_seen it) r)) at.ordered)
  behind_ordered r = count-map item_seen (λ s. is_gt (rank_cmp s.1 r)) items ∙ sym (count-permutation (λ it. is_gt (rank_cmp (rank_seen it) r)) items at.ordered at.permutation)

  -- fewer than i + 1 come before what is not behind the item, and i + 1 at least before what is
  module _ (r : Rank) where
    few_before : is_gt (rank_cmp r (rank_seen item)) ≡ false → count_before r (map item_seen items) ≤ i
    few_before up = omega (arith, before_ordered r, none_behind (λ it. is_lt (rank_cmp (rank_seen it) r)) at.ordered i (λ k d le lt. not_less_through r (rank_seen item) (rank_at k d) up (from_here k d le lt)))

    many_before : is_gt (rank_cmp r (rank_seen item)) ≡ true → i < count_before r (map item_seen items)
    many_before more =
        let bound = at.within in
        omega (
          arith,
          before_ordered r,
          all_before (λ it. is_lt (rank_cmp (rank_seen it) r)) at.ordered (i + 1) (omega arith)
              (λ k d lt. below_less (rank_at k d) (rank_seen item) r (gt_is_lt (rank_at k d) (rank_seen item) ∙ to_here k d (omega arith)) (sym (gt_is_lt r (rank_seen item)) ∙ more)),
        )

    few_behind : is_lt (rank_cmp r (rank_seen item)) ≡ false → count_behind r (map item_seen items) + i + 1 ≤ length items
    few_behind up =
        let bound = at.within in
        omega (
          arith,
          long,
          behind_ordered r,
          none_before (λ it. is_gt (rank_cmp (rank_seen it) r)) at.ordered (i + 1) (omega arith)
              (λ k d lt. not_greater_through r (rank_seen item) (rank_at k d) up (to_here k d (omega arith))),
        )

    many_behind : is_lt (rank_cmp r (rank_seen item)) ≡ true → length items ≤ count_behind r (map item_seen items) + i
    many_behind less = omega (
      arith,
      long,
      behind_ordered r,
      all_behind (λ it. is_gt (rank_cmp (rank_seen it) r)) at.ordered i
          (λ k d le lt. gt_is_lt (rank_at k d) r ∙ less_below r (rank_seen item) (rank_at k d) less (gt_is_lt (rank_seen item) (rank_at k d) ∙ from_here k d le lt)),
    )

  -- what the last item of a limit from the first on keeps
  pub up_to : (n : ℕ) → n ≡ i + 1 → (r : Rank) → lies_inside (UpTo item) r ≡ is_kept_of (Some n) None (map item_seen items) r
  up_to n is r = ⊎_elim
      (λ more. ap not more ∙ sym (ap (λ b. b && true) (le-ltb (count_before r (map item_seen items)) n (omega (arith, is, many_before r more)))))
      (λ up. ap not up ∙ sym (ap (λ b. b && true) (lt-ltb (count_before r (map item_seen items)) n (omega (arith, is, few_before r up)))))
      (cases_Bool (is_gt (rank_cmp r (rank_seen item))))

  -- and the first one of a limit from the last one on
  pub from_on : (n : ℕ) → n + i ≡ length items → (r : Rank) → lies_inside (FromOn item) r ≡ is_kept_of None (Some n) (map item_seen items) r
  from_on n is r = ⊎_elim
      (λ less. ap not less ∙ sym (le-ltb (count_behind r (map item_seen items)) n (omega (arith, is, many_behind r less))))
      (λ up. ap not up ∙ sym (lt-ltb (count_behind r (map item_seen items)) n (omega (arith, is, few_behind r up))))
      (cases_Bool (is_lt (rank_cmp r (rank_seen item))))

-- a limit that the items do not reach keeps all
pub all_of_first : (items : List Item) (n : ℕ) → length items < n → (r : Rank) → true ≡ is_kept_of (Some n) None (map item_seen items) r
all_of_first items n few r = sym (ap (λ b. b && true) (lt-ltb (count_before r (map item_seen items)) n
    (omega (arith, few, count-map item_seen (λ s. is_lt (rank_cmp s.1 r)) items, fewer (λ it. is_lt (rank_cmp (rank_seen it) r)) items))))

pub all_of_last : (items : List Item) (n : ℕ) → length items < n → (r : Rank) → true ≡ is_kept_of None (Some n) (map item_seen items) r
all_of_last items n few r = sym (lt-ltb (count_behind r (map item_seen items)) n
    (omega (arith, few, count-map item_seen (λ s. is_gt (rank_cmp s.1 r)) items, fewer (λ it. is_gt (rank_cmp (rank_seen it) r)) items)))
