-- A limit bounds how many children are kept.
use Rattle.std.proofs.Common.{◌≡◌, ◌≢◌, ℕ, suc, ◌+◌, ◌≤◌, ◌<◌, ◌&&◌, nat_lt, Bool, true, false, cond, true≢false, List, [], ◌∷◌, length, filter, Option, Some, Ordering, Less, Equal, Greater, is_lt, is_gt, sym, ap, ◌∙◌, refl, arith, ⊎_elim}
use Rattle.std.specs.Option.{option_map_or}
use Rattle.std.specs.List.{AllByRecursion}
use Rattle.std.specs.Cmp.{first_so, second_so, tied_itself}
use Rattle.std.specs.Bool.{⊤}
use Rattle.std.specs.FinMap.{is_sorted}
use Rattle.std.specs.FinMap.Entries.{below_all}
use Rattle.std.proofs.lemmas.List.{length-map}
use Rattle.std.proofs.lemmas.Bool.{ltb-true, false_from_ne_true, cond_both, cases_Bool}
use Rattle.tree_model.specs.Key.{Key, key_cmp}
use Rattle.tree_model.specs.Tree.{Tree, null, child_keys}
use Rattle.tree_model.specs.Children.{graft}
use Rattle.tree_model.proofs.Grafts.{child_keys-graft}
use Rattle.tree_model.proofs.Orders.{keys_total}
use Rattle.json_tree.proofs.Children.{each_subtree}
use Rattle.json_tree.proofs.Proposing.{empty_graft}
use Rattle.arena_snapshot.specs.Working.Change.{entries_of}
use Rattle.arena_snapshot.proofs.Ranks.{child_keys-null}
use Rattle.arena_snapshot.proofs.Sums.{entries_sorted}
use Rattle.listeners.specs.Order.{place_cmp}
use Rattle.listeners.specs.Query.{Order, Query}
use Rattle.listeners.specs.Selection.{Child, child_cmp, is_within, within, before, after, is_kept, selected}
use Rattle.listeners.specs.Working.Ranks.{Rank, rank_cmp, rank_of, keyed, keyed_cmp}
use Rattle.listeners.proofs.Counts.{filter-filter}
use Rattle.listeners.proofs.Edges.{gt_is_lt, below_less}
use Rattle.listeners.proofs.Keeping.{child_cmp-rank}
use Rattle.listeners.proofs.Orders.{then_tied, list_cmp-keyed, list_exact, rank_total}

-- ---- the greatest of a list

each-filter : {X : Type 0} (p : X → Bool) (P : X → Type 0) (ys : List X) → AllByRecursion P ys → AllByRecursion P (filter p ys)
each-filter p P [] h = tt
each-filter p P (y ∷ ys) h = cond_both (p y) (y ∷ filter p ys) (filter p ys) (AllByRecursion P) (λ _. (h.0, each-filter p P ys h.1)) (λ _. each-filter p P ys h.1)

-- each is apart from all later ones
abbrev pub AreApart : {X : Type 0} → (X → X → Type 0) → List X → Type 0
AreApart Apart [] = ⊤
AreApart Apart (x ∷ xs) = AllByRecursion (Apart x) xs × AreApart Apart xs

AreApart-filter : {X : Type 0} (Apart : X → X → Type 0) (p : X → Bool) (xs : List X) → AreApart Apart xs → AreApart Apart (filter p xs)
AreApart-filter Apart p [] h = h
AreApart-filter Apart p (x ∷ xs) h = cond_both (p x) (x ∷ filter p xs) (filter p xs) (AreApart Apart) (λ _. (each-filter p (Apart x) xs h.0, AreApart-filter Apart p xs h.1)) (λ _. AreApart-filter Apart p xs h.1)

-- what is asked of an order, some of whose elements are apart
pub record Ranking {X : Type 0} (less : X → X → Bool) (Apart : X → X → Type 0) : Type 0 where
  pub itself : (x : X) → less x x ≡ false
  pub through : (m x y : X) → less m x ≡ true → less m y ≡ false → less x y ≡ false
  pub apart : (m x y : X) → less x m ≡ false → less m x ≡ false → less m y ≡ false → Apart x y → less y m ≡ true

module _ {X : Type 0} (less : X → X → Bool) (Apart : X → X → Type 0) (order : Ranking less Apart) where
  -- an element that no other stands behind
  record Greatest (P : X → Type 0) (xs : List X) : Type 0 where
    at : X
    is : P at
    top : AllByRecursion (λ y. less at y ≡ false) xs

  higher : (m x : X) → less m x ≡ true → (xs : List X) → AllByRecursion (λ y. less m y ≡ false) xs → AllByRecursion (λ y. less x y ≡ false) xs
  higher m x up [] h = tt
  higher m x up (y ∷ ys) h = (order.through m x y up h.0, higher m x up ys h.1)

  greatest : (P : X → Type 0) (x : X) (xs : List X) → AllByRecursion P (x ∷ xs) → Greatest P (x ∷ xs)
  greatest P x [] h = record { at = x; is = h.0; top = (order.itself x, tt) }
  greatest P x (y ∷ ys) h =
      let rest = greatest P y ys h.1 in
      ⊎_elim
      (λ up. record { at = x; is = h.0; top = (order.itself x, higher rest.at x up (y ∷ ys) rest.top) })
      (λ low. record { at = rest.at; is = rest.is; top = (low, rest.top) })
      (cases_Bool (less rest.at x))

  count_cons : (b : Bool) (x : X) (xs : List X) → b ≡ true → length (cond b (x ∷ xs) xs) ≡ suc (length xs)
  count_cons b x xs h = ap (λ c. length (cond c (x ∷ xs) xs)) h

  count_le : (b : Bool) (x : X) (xs : List X) → length xs ≤ length (cond b (x ∷ xs) xs)
  count_le true x xs = omega arith
  count_le false x xs = omega arith

  -- where one is tied with the greatest, all others are before it
  all_less : (m x : X) → less x m ≡ false → less m x ≡ false → (ys : List X) → AllByRecursion (Apart x) ys → AllByRecursion (λ y. less m y ≡ false) ys → length ys ≤ length (filter (λ y. less y m) ys)
  all_less m x low high [] a h = omega arith
  all_less m x low high (y ∷ ys) a h = omega (arith, count_cons (less y m) y (filter (λ y. less y m) ys) (order.apart m x y low high h.0 a.0), all_less m x low high ys a.1 h.1)

  all_but_one : (m : X) (xs : List X) → AreApart Apart xs → AllByRecursion (λ y. less m y ≡ false) xs → length xs ≤ length (filter (λ y. less y m) xs) + 1
  all_but_one m [] a h = omega arith
  all_but_one m (x ∷ xs) a h = ⊎_elim
      (λ up. omega (arith, count_cons (less x m) x (filter (λ y. less y m) xs) up, all_but_one m xs a.1 h.1))
      (λ low. omega (arith, count_le (less x m) x (filter (λ y. less y m) xs), all_less m x low h.0 xs a.0 h.1))
      (cases_Bool (less x m))

  -- fewer than n stand before each of them, so there are n at most
  pub few : (n : ℕ) (xs : List X) → AreApart Apart xs → AllByRecursion (λ x. length (filter (λ y. less y x) xs) < n) xs → length xs ≤ n
  few n [] a h = omega arith
  few n (x ∷ xs) a h =
      let top = greatest (λ m. length (filter (λ y. less y m) (x ∷ xs)) < n) x xs h in
      let below = top.is in
      omega (arith, all_but_one top.at (x ∷ xs) a top.top)

-- ---- counts over fewer

shorter : {X : Type 0} (b c : Bool) (x : X) (us vs : List X) → (b ≡ true → c ≡ true) → length us ≤ length vs → length (cond b (x ∷ us) us) ≤ length (cond c (x ∷ vs) vs)
shorter true true x us vs h le = omega (arith, le)
shorter true false x us vs h le = absurd (true≢false (sym (h refl)))
shorter false true x us vs h le = omega (arith, le)
shorter false false x us vs h le = omega (arith, le)

pub length-filter_le : {X : Type 0} (p q : X → Bool) → ((x : X) → p x ≡ true → q x ≡ true) → (xs : List X) → length (filter p xs) ≤ length (filter q xs)
length-filter_le p q weaker [] = omega arith
length-filter_le p q weaker (x ∷ xs) = shorter (p x) (q x) x (filter p xs) (filter q xs) (weaker x) (length-filter_le p q weaker xs)

-- what passes both tests first passes the first
kept_count : {X : Type 0} (p q r : X → Bool) → ((x : X) → p x ≡ true → q x ≡ true) → (xs : List X) → length (filter r (filter p xs)) ≤ length (filter r (filter q xs))
kept_count {X = X} p q r weaker xs = omega (arith, ap length (filter-filter r p xs), ap length (filter-filter r q xs), length-filter_le (λ x. p x && r x) (λ x. q x && r x) both xs)
  where
    both : (x : X) → p x && r x ≡ true → q x && r x ≡ true
    both x h = ap (λ b. b && r x) (weaker x (first_so (p x) (r x) h)) ∙ second_so (p x) (r x) h

passes : {X : Type 0} (p : X → Bool) (xs : List X) → AllByRecursion (λ x. p x ≡ true) (filter p xs)
passes p [] = tt
passes p (x ∷ xs) = cond_both (p x) (x ∷ filter p xs) (filter p xs) (AllByRecursion (λ x. p x ≡ true)) (λ e. (e, passes p xs)) (λ _. passes p xs)

weaken : {X : Type 0} (P Q : X → Type 0) → ((x : X) → P x → Q x) → (xs : List X) → AllByRecursion P xs → AllByRecursion Q xs
weaken P Q h [] a = tt
weaken P Q h (x ∷ xs) a = (h x a.0, weaken P Q h xs a.1)

-- ---- children

abbrev Apart : Option Order → Child → Child → Type 0
Apart order c d = child_cmp order c d ≢ Equal

-- children of different keys are apart
different : (order : Option Order) (c d : Child) → c.0 ≢ d.0 → Apart order c d
different order c d other tied = other (list_exact c.0 d.0 (list_cmp-keyed c.0 d.0 ∙ then_tied (place_cmp (rank_of order c).0 (rank_of order d).0) (keyed_cmp (keyed c.0) (keyed d.0)) (sym (child_cmp-rank order c d) ∙ tied)))

entries_apart : (order : Option Order) (cs : List Child) → is_sorted key_cmp cs ≡ true → AreApart (Apart order) cs
entries_apart order [] h = tt
entries_apart order (c ∷ cs) h = (each cs (first_so (below_all key_cmp c.0 cs) (is_sorted key_cmp cs) h), entries_apart order cs (second_so (below_all key_cmp c.0 cs) (is_sorted key_cmp cs) h))
  where
    each : (ds : List Child) → below_all key_cmp c.0 ds ≡ true → AllByRecursion (Apart order c) ds
    each [] b = tt
    each (d ∷ ds) b =
        (different order c d (λ same. lower (first_so (is_lt (key_cmp c.0 d.0)) (below_all key_cmp c.0 ds) b) same), each ds (second_so (is_lt (key_cmp c.0 d.0)) (below_all key_cmp c.0 ds) b))
      where
        lower : is_lt (key_cmp c.0 d.0) ≡ true → c.0 ≡ d.0 → ⊥
        lower less same = true≢false (sym less ∙ ap (λ k. is_lt (key_cmp k d.0)) same ∙ ap is_lt (tied_itself keys_total d.0))

-- ---- both directions

module _ (order : Option Order) where
  abbrev rank : Child → Rank
  rank c = rank_of order c

  abbrev lower : Child → Child → Bool
  lower c d = is_lt (child_cmp order c d)

  abbrev higher_than : Child → Child → Bool
  higher_than c d = is_gt (child_cmp order c d)

  lower-rank : (c d : Child) → lower c d ≡ is_lt (rank_cmp (rank c) (rank d))
  lower-rank c d = ap is_lt (child_cmp-rank order c d)

  higher-lower : (c d : Child) → higher_than c d ≡ lower d c
  higher-lower c d = ap is_gt (child_cmp-rank order c d) ∙ gt_is_lt (rank c) (rank d) ∙ sym (lower-rank d c)

  -- neither before nor behind is tied
  tied_of : (o : Ordering) → is_lt o ≡ false → is_gt o ≡ false → o ≡ Equal
  tied_of Less h g = cc
  tied_of Equal h g = refl
  tied_of Greater h g = cc

  not_gt_of : (o : Ordering) → is_lt o ≡ true → is_gt o ≡ false
  not_gt_of Less h = refl
  not_gt_of Equal h = cc
  not_gt_of Greater h = cc

  lower_itself : (c : Child) → lower c c ≡ false
  lower_itself c = ap is_lt (child_cmp-rank order c c ∙ tied_itself rank_total (rank c))

  lower_trans : (c d e : Child) → lower c d ≡ true → lower d e ≡ true → lower c e ≡ true
  lower_trans c d e h g = lower-rank c e ∙ below_less (rank c) (rank d) (rank e) (not_gt_of (rank_cmp (rank c) (rank d)) (sym (lower-rank c d) ∙ h)) (sym (lower-rank d e) ∙ g)

  tie : (c d : Child) → lower c d ≡ false → lower d c ≡ false → rank_cmp (rank c) (rank d) ≡ Equal
  tie c d h g = tied_of (rank_cmp (rank c) (rank d)) (sym (lower-rank c d) ∙ h) (gt_is_lt (rank c) (rank d) ∙ sym (lower-rank d c) ∙ g)

  apart_of : (m x y : Child) → lower x m ≡ false → lower m x ≡ false → (lower m y ≡ false → Apart order x y → lower y m ≡ false → ⊥)
  apart_of m x y xm mx my other ym = other (child_cmp-rank order x y ∙ rank_total.congr (rank x) (rank m) (rank y) (tie x m xm mx) ∙ tie m y my ym)

  true_of : (b : Bool) → (b ≡ false → ⊥) → b ≡ true
  true_of true h = refl
  true_of false h = absurd (h refl)

  from_first : Ranking lower (Apart order)
  from_first = record {
    itself = lower_itself;
    through = λ m x y mx my. false_from_ne_true (lower x y) (λ xy. true≢false (sym (lower_trans m x y mx xy) ∙ my));
    apart = λ m x y xm mx my other. true_of (lower y m) (apart_of m x y xm mx my other);
  }

  from_last : Ranking higher_than (Apart order)
  from_last = record {
    itself = λ c. higher-lower c c ∙ lower_itself c;
    through = λ m x y mx my. higher-lower x y ∙ false_from_ne_true (lower y x) (λ yx. true≢false (sym (lower_trans y x m yx (sym (higher-lower m x) ∙ mx)) ∙ sym (higher-lower m y) ∙ my));
    apart = λ m x y xm mx my other. higher-lower y m ∙ true_of (lower m y) (λ ym. apart_of m x y (sym (higher-lower m x) ∙ mx) (sym (higher-lower x m) ∙ xm) ym other (sym (higher-lower m y) ∙ my));
  }

-- ---- selections

-- what is kept of a sorted list is sorted
pub below_all-filter : (p : Child → Bool) (k : Key) (cs : List Child) → below_all key_cmp k cs ≡ true → below_all key_cmp k (filter p cs) ≡ true
below_all-filter p k [] h = refl
below_all-filter p k (c ∷ cs) h =
    let rest = below_all-filter p k cs (second_so (is_lt (key_cmp k c.0)) (below_all key_cmp k cs) h) in
    cond_both (p c) (c ∷ filter p cs) (filter p cs) (λ ds. below_all key_cmp k ds ≡ true) (λ _ i. first_so (is_lt (key_cmp k c.0)) (below_all key_cmp k cs) h i && rest i) (λ _. rest)

pub is_sorted-filter : (p : Child → Bool) (cs : List Child) → is_sorted key_cmp cs ≡ true → is_sorted key_cmp (filter p cs) ≡ true
is_sorted-filter p [] h = refl
is_sorted-filter p (c ∷ cs) h =
    let rest = is_sorted-filter p cs (second_so (below_all key_cmp c.0 cs) (is_sorted key_cmp cs) h) in
    cond_both (p c) (c ∷ filter p cs) (filter p cs) (λ ds. is_sorted key_cmp ds ≡ true) (λ _ i. below_all-filter p c.0 cs (first_so (below_all key_cmp c.0 cs) (is_sorted key_cmp cs) h) i && rest i) (λ _. rest)

module _ (query : Query) (t : Tree) where
  abbrev kept_children : List Child
  kept_children = filter (is_kept query (entries_of t)) (entries_of t)

  kept_apart : AreApart (Apart query.order) kept_children
  kept_apart = AreApart-filter (Apart query.order) (is_kept query (entries_of t)) (entries_of t) (entries_apart query.order (entries_of t) (entries_sorted t))

  kept_within : (c : Child) → is_kept query (entries_of t) c ≡ true → is_within query c ≡ true
  kept_within c h = first_so (is_within query c) _ (first_so _ _ h)

  few_first : (n : ℕ) → query.limit_to_first ≡ Some n → length kept_children ≤ n
  few_first n limit = few (lower query.order) (Apart query.order) (from_first query.order) n kept_children kept_apart
      (weaken (λ c. is_kept query (entries_of t) c ≡ true) (λ c. length (filter (λ d. lower query.order d c) kept_children) < n)
      (λ c h. let few = ltb-true (before query.order c (within query (entries_of t))) n (sym (ap (λ l. option_map_or (nat_lt (before query.order c (within query (entries_of t)))) l true) limit) ∙ second_so (is_within query c) _ (first_so _ _ h)) in
      omega (arith, few, kept_count (is_kept query (entries_of t)) (is_within query) (λ d. lower query.order d c) kept_within (entries_of t)))
      kept_children (passes (is_kept query (entries_of t)) (entries_of t)))

  few_last : (n : ℕ) → query.limit_to_last ≡ Some n → length kept_children ≤ n
  few_last n limit = few (higher_than query.order) (Apart query.order) (from_last query.order) n kept_children kept_apart
      (weaken (λ c. is_kept query (entries_of t) c ≡ true) (λ c. length (filter (λ d. higher_than query.order d c) kept_children) < n)
      (λ c h. let few = ltb-true (after query.order c (within query (entries_of t))) n (sym (ap (λ l. option_map_or (nat_lt (after query.order c (within query (entries_of t)))) l true) limit) ∙ second_so (is_within query c && option_map_or (nat_lt (before query.order c (within query (entries_of t)))) query.limit_to_first true) _ h) in
      omega (arith, few, kept_count (is_kept query (entries_of t)) (is_within query) (λ d. higher_than query.order d c) kept_within (entries_of t)))
      kept_children (passes (is_kept query (entries_of t)) (entries_of t)))

  -- the tree of the kept children has just these
  width-graft : (cs : List Child) → is_sorted key_cmp cs ≡ true → AllByRecursion (λ (c : Child). c.1 ≢ null) cs → length (child_keys (graft cs)) ≡ length cs
  width-graft [] s h = ap (λ t. length (child_keys t)) empty_graft ∙ ap length child_keys-null
  width-graft (c ∷ cs) s h = ap length (child_keys-graft (c ∷ cs) (record { some = λ e. cc; ascending = s; each = h })) ∙ length-map (c ∷ cs) (λ (c : Child). c.0)

  width-selected : length (child_keys (selected query t)) ≡ length kept_children
  width-selected = width-graft kept_children (is_sorted-filter (is_kept query (entries_of t)) (entries_of t) (entries_sorted t)) (each-filter (is_kept query (entries_of t)) (λ c. c.1 ≢ null) (entries_of t) (each_subtree (λ c. c.1 ≢ null) t (λ k some. some)))

pub first_limit : (query : Query) (t : Tree) (n : ℕ) → query.limit_to_first ≡ Some n → length (child_keys (selected query t)) ≤ n
first_limit query t n limit = omega (arith, width-selected query t, few_first query t n limit)

pub last_limit : (query : Query) (t : Tree) (n : ℕ) → query.limit_to_last ≡ Some n → length (child_keys (selected query t)) ≤ n
last_limit query t n limit = omega (arith, width-selected query t, few_last query t n limit)
