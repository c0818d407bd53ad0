-- What is looked at by keys is enough for the bounds and the limit.
use Rattle.std.proofs.Common.{◌≡◌, ℕ, ◌+◌, ◌≤◌, ◌<◌, ◌⊎◌, nat_lt, nat_le, Bool, true, false, not, ◌&&◌, cond, ℤ, List, length, map, get_or, filter, Option, Some, None, option_map, Ordering, Less, Greater, is_lt, is_gt, is_eq, true≢false, ⊎_elim, inl, inr, sym, ap, ◌∙◌, refl, subst, arith}
use Rattle.std.specs.List.{AllByRecursion}
use Rattle.std.specs.Option.{option_map_or}
use Rattle.std.specs.Ordering.{ordering_reverse}
use Rattle.std.proofs.lemmas.Bool.{cases_Bool, and_cases, and_from, le-ltb, lt-ltb, le-leb, ltb-false, leb-false, cond-true, cond-false, cond_both}
use Rattle.std.proofs.lemmas.List.{get_or_default}
use Rattle.std.proofs.lemmas.List.Elements.{recursion_from_All}
use Rattle.tree_model.specs.Key.{Key, key_cmp}
use Rattle.tree_model.specs.Primitive.{Primitive, truth, whole, words}
use Rattle.tree_model.specs.Tree.{Tree}
use Rattle.tree_model.proofs.Orders.{keys_total}
use Rattle.arena_snapshot.specs.Working.Change.{entries_of}
use Rattle.listeners.specs.Order.{number_of, list_cmp, place_cmp}
use Rattle.listeners.specs.Query.{Order, by_key, by_value, by_child, Query}
use Rattle.listeners.specs.Selection.{Child, beside, is_within}
use Rattle.listeners.specs.declared.item.Item.{Item}
use Rattle.listeners.specs.declared.order.Limit.{Limit}
use Rattle.listeners.specs.declared.order.Limit.TheVariants.{First, Last}
use Rattle.listeners.specs.declared.reach.Reach.{Reach}
use Rattle.listeners.specs.Working.Items.{item_seen}
use Rattle.listeners.specs.Working.Parts.{first_of, last_of}
use Rattle.listeners.specs.Working.Ranks.{Rank, rank_cmp, rank_of, keyed, keyed_cmp, key_in, numbered, ranked, ranks_within, is_kept_of, count_before, count_behind}
use Rattle.listeners.specs.Working.Reach.{is_text, passes, IsReach, IsTextRun, IsLimited, is_looked_at, is_of_keys, ranks_looked, kept_among, IsEnough}
use Rattle.listeners.proofs.Counts.{count-map, filter-filter, all_within}
use Rattle.listeners.proofs.Listing.{length-numbered, numbered_at, listed_all, looked_upto}
use Rattle.listeners.proofs.Searching.{ascending}
use Rattle.listeners.proofs.Thinning.{same_kept, kept_thin}

-- ---- by an order of keys

module _ (order : Option Order) (keys : is_of_keys order ≡ true) where
  cmp_by_keys : (c d : Child) → rank_cmp (rank_of order c) (rank_of order d) ≡ keyed_cmp (keyed c.0) (keyed d.0)
  unfolding place_cmp
  cmp_by_keys c d = by_order order keys
    where
      by_order : (o : Option Order) → is_of_keys o ≡ true → rank_cmp (rank_of o c) (rank_of o d) ≡ keyed_cmp (keyed c.0) (keyed d.0)
      by_order None h = refl
      by_order (Some by_key) h = refl
      by_order (Some by_value) h = cc
      by_order (Some (by_child path)) h = cc

  beside_key : (c : Child) (v : Primitive) → beside order c v ≡ keyed_cmp (keyed c.0) (keyed (key_in v))
  unfolding list_cmp
  beside_key c v = by_order order keys v
    where
      by_order : (o : Option Order) → is_of_keys o ≡ true → (v : Primitive) → beside o c v ≡ keyed_cmp (keyed c.0) (keyed (key_in v))
      by_order None h (truth b) = refl
      by_order None h (whole z) = refl
      by_order None h (words s) = refl
      by_order (Some by_key) h (truth b) = refl
      by_order (Some by_key) h (whole z) = refl
      by_order (Some by_key) h (words s) = refl
      by_order (Some by_value) h v = cc
      by_order (Some (by_child path)) h v = cc

  bound_by_key : (test : Ordering → Bool) (c : Child) (bound : Option Primitive) → option_map_or (λ b. test (beside order c b)) bound true ≡ option_map_or (λ k. test (keyed_cmp (keyed c.0) (keyed k))) (option_map key_in bound) true
  bound_by_key test c None = refl
  bound_by_key test c (Some v) = ap test (beside_key c v)

-- ---- keys that are no numbers

keyed_less : (k l : Key) → number_of k ≡ None → number_of l ≡ None → key_cmp k l ≡ Less → keyed_cmp (keyed k) (keyed l) ≡ Less
keyed_less k l k_none l_none less =
    let texts : keyed_cmp (None, k) (None, l) ≡ Less = less in
    (λ i. keyed_cmp (k_none i, k) (l_none i, l)) ∙ texts

keyed_greater : (k l : Key) → number_of k ≡ None → key_cmp l k ≡ Less → keyed_cmp (keyed k) (keyed l) ≡ Greater
keyed_greater k l k_none less = ap (λ n. keyed_cmp (n, k) (keyed l)) k_none ∙ by_number (number_of l)
  where
    by_number : (n : Option ℤ) → keyed_cmp (None, k) (n, l) ≡ Greater
    by_number None = keys_total.antisymm k l ∙ ap ordering_reverse less
    by_number (Some z) = refl

-- ---- what is looked at

looked_false : (reach : Reach) (i : ℕ) → is_looked_at reach i ≡ false → (i < reach.from) ⊎ (((is_text reach.digits i ≡ true) × (reach.texts_to ≤ i)) ⊎ (reach.to ≤ i))
looked_false reach i off = ⊎_elim
    (λ before. inl (leb-false reach.from i before))
    (λ past.
    let far = ltb-false i (cond (is_text reach.digits i) reach.texts_to reach.to) past in
    inr (⊎_elim
    (λ text. inl (text, subst (λ m. m ≤ i) (cond-true (is_text reach.digits i) reach.texts_to reach.to text) far))
    (λ number. inr (subst (λ m. m ≤ i) (cond-false (is_text reach.digits i) reach.texts_to reach.to number) far))
    (cases_Bool (is_text reach.digits i))))
    (and_cases (nat_le reach.from i) (nat_lt i (cond (is_text reach.digits i) reach.texts_to reach.to)) off)

looked_true : (reach : Reach) (i : ℕ) → reach.from ≤ i → i < reach.texts_to → reach.texts_to ≤ reach.to → is_looked_at reach i ≡ true
looked_true reach i past low order = and_from _ _ (le-leb reach.from i past) (lt-ltb i (cond (is_text reach.digits i) reach.texts_to reach.to) (cond_both (is_text reach.digits i) reach.texts_to reach.to (λ m. i < m) (λ _. low) (λ _. omega arith)))

module _ (query : Query) (cs : List Child) (reach : Reach) where
  abbrev looked : ℕ × Child → Bool
  looked e = is_looked_at reach e.0 && is_within query e.1

  abbrev Gone : ℕ × Child → Type 0
  Gone e = is_looked_at reach e.0 ≡ false → is_within query e.1 ≡ true → is_kept_of query.limit_to_first query.limit_to_last (ranks_looked query cs reach) (rank_of query.order e.1) ≡ false

  entry_at : (k : ℕ) (e : ℕ × Child) → k < length cs → get_or (numbered 0 cs) k e ≡ (k, get_or cs k e.1)
  entry_at k e within = numbered_at 0 k cs e within ∙ ap (λ m. (m, get_or cs k e.1)) (let same : 0 + k ≡ k = omega arith in same)

  -- n children that are looked at count
  run_counted : (test : Ordering → Bool) (r : Rank) (start n : ℕ) → start + n ≤ length cs
      → ((j : ℕ) (d : Child) → start ≤ j → j < start + n → (is_looked_at reach j ≡ true) × (is_within query (get_or cs j d) ≡ true) × (test (rank_cmp (rank_of query.order (get_or cs j d)) r) ≡ true))
      → n ≤ length (filter (λ (s : ℕ × Rank). test (rank_cmp s.1 r)) (ranks_looked query cs reach))
  run_counted test r start n within each = omega (
    arith,
    count-map (ranked query.order) (λ (s : ℕ × Rank). test (rank_cmp s.1 r)) (filter looked (numbered 0 cs)),
    ap length (filter-filter (λ (e : ℕ × Child). test (rank_cmp (rank_of query.order e.1) r)) looked (numbered 0 cs)),
    all_within (λ (e : ℕ × Child). looked e && test (rank_cmp (rank_of query.order e.1) r)) (numbered 0 cs) start n (omega (arith, length-numbered 0 cs)) (λ k e low high.
        let is = each k e.1 low high in
        ap (λ (e : ℕ × Child). looked e && test (rank_cmp (rank_of query.order e.1) r)) (entry_at k e (omega arith))
        ∙ and_from _ _ (and_from _ _ is.0 is.1) is.2),
  )

  -- whatever is not looked at is kept by no limit
  others_gone : IsEnough query cs reach → AllByRecursion Gone (numbered 0 cs)
  others_gone enough = recursion_from_All Gone (numbered 0 cs) (λ k e inside.
      let within : k < length cs = omega (arith, length-numbered 0 cs) in
      subst Gone (sym (entry_at k e within)) (enough.others k e.1 within))

-- ---- enough

module _ (query : Query) (t : Tree) (reach : Reach) (keys : is_of_keys query.order ≡ true) (limits : (query.limit_to_first ≡ None) ⊎ (query.limit_to_last ≡ None))
    (is : IsReach (entries_of t) (passes (option_map key_in query.start_at) (option_map key_in query.end_at) (option_map key_in query.equal_to)) reach) where
  abbrev cs : List Child
  cs = entries_of t

  abbrev at : ℕ → Child → Child
  at i d = get_or cs i d

  abbrev passing : Key → Bool
  passing = passes (option_map key_in query.start_at) (option_map key_in query.end_at) (option_map key_in query.equal_to)

  abbrev rank : ℕ → Child → Rank
  rank i d = rank_of query.order (at i d)

  within_passes : (c : Child) → is_within query c ≡ passing c.0
  within_passes c = λ i.
      bound_by_key query.order keys (λ o. not (is_lt o)) c query.start_at i
      && bound_by_key query.order keys (λ o. not (is_gt o)) c query.end_at i
      && bound_by_key query.order keys is_eq c query.equal_to i

  less : (j i : ℕ) (e d : Child) → j < i → i < length cs → key_cmp (at j e).0 (at i d).0 ≡ Less
  less j i e d low within = ap (λ (c : Child). key_cmp c.0 (at i d).0) (get_or_default cs j e d (omega arith)) ∙ ascending t j i d low within

  -- what fails is not within the bounds
  apart : (i : ℕ) (d : Child) → is_within query (at i d) ≡ true → passing (at i d).0 ≡ false → ⊥
  apart i d inside fails = true≢false (sym inside ∙ within_passes (at i d) ∙ fails)

  pub enough_all : IsEnough query cs reach
  enough_all = record {
    limits = limits;
    others = λ i d within off inside. absurd (⊎_elim
        (λ low. apart i d inside (is.before i d low within))
        (⊎_elim
        (λ far. apart i d inside (is.texts i d far.1 within (is.digits i d within far.0)))
        (λ far. apart i d inside (is.behind i d far within)))
        (looked_false reach i off));
  }

  module _ (start n : ℕ) (run : IsTextRun reach start n) where
    -- none of the run is a number, and all of it is within the bounds
    in_run : (j : ℕ) (d : Child) → start ≤ j → j < start + n → (j < length cs) × (number_of (at j d).0 ≡ None)
    in_run j d low high =
        let to = run.to in let wide = is.within in
        let within : j < length cs = omega arith in
        (within, is.digits j d within (run.texts j low high))

    run_within : (j : ℕ) (d : Child) → start ≤ j → j < start + n → is_within query (at j d) ≡ true
    run_within j d low high =
        let from = run.from in let to = run.to in
        let text = in_run j d low high in
        within_passes (at j d) ∙ is.inside j d (omega arith) (omega arith) text.0 text.1

    long : start + n ≤ length cs
    long = let to = run.to in let wide = is.within in omega arith

    abbrev shorter : Reach
    shorter = record reach { texts_to = start + n }

    abbrev later : Reach
    later = record reach { from = start }

    pub enough_first : query.limit_to_first ≡ Some n → query.limit_to_last ≡ None → IsEnough query cs shorter
    enough_first first last = record {
      limits = limits;
      others = λ i d within off inside. ⊎_elim
          (λ low. absurd (apart i d inside (is.before i d low within)))
          (⊎_elim
          (λ far. beyond i d within far.0 far.1)
          (λ far. absurd (apart i d inside (is.behind i d far within))))
          (looked_false shorter i off);
    }
      where
        beyond : (i : ℕ) (d : Child) → i < length cs → is_text reach.digits i ≡ true → start + n ≤ i → is_kept_of query.limit_to_first query.limit_to_last (ranks_looked query cs shorter) (rank i d) ≡ false
        beyond i d within text past =
            let many : n ≤ count_before (rank i d) (ranks_looked query cs shorter) = run_counted query cs shorter is_lt (rank i d) start n long (λ j e low high.
            let from = run.from in let to = run.to in let order = is.order in
            let none = in_run j e low high in
            (looked_true shorter j (omega arith) high (omega arith), run_within j e low high, ap is_lt (cmp_by_keys query.order keys (at j e) (at i d) ∙ keyed_less (at j e).0 (at i d).0 none.1 (is.digits i d within text) (less j i e d (omega arith) within)))) in
            (λ k. is_kept_of (first k) (last k) (ranks_looked query cs shorter) (rank i d)) ∙ ap (λ b. b && true) (le-ltb (count_before (rank i d) (ranks_looked query cs shorter)) n many)

    pub enough_last : query.limit_to_first ≡ None → query.limit_to_last ≡ Some n → IsEnough query cs later
    enough_last first last = record {
      limits = limits;
      others = λ i d within off inside. ⊎_elim
          (λ low. before i d within low)
          (λ far. absurd (⊎_elim
          (λ (text : (is_text reach.digits i ≡ true) × (reach.texts_to ≤ i)). apart i d inside (is.texts i d text.1 within (is.digits i d within text.0)))
          (λ past. apart i d inside (is.behind i d past within))
          far))
          (looked_false later i off);
    }
      where
        before : (i : ℕ) (d : Child) → i < length cs → i < start → is_kept_of query.limit_to_first query.limit_to_last (ranks_looked query cs later) (rank i d) ≡ false
        before i d within low_i =
            let many : n ≤ count_behind (rank i d) (ranks_looked query cs later) = run_counted query cs later is_gt (rank i d) start n long (λ j e low high.
            let to = run.to in let order = is.order in
            let none = in_run j e low high in
            (looked_true later j low (omega arith) order, run_within j e low high, ap is_gt (cmp_by_keys query.order keys (at j e) (at i d) ∙ keyed_greater (at j e).0 (at i d).0 none.1 (less i j d e (omega arith) none.0)))) in
            (λ k. is_kept_of (first k) (last k) (ranks_looked query cs later) (rank i d)) ∙ le-ltb (count_behind (rank i d) (ranks_looked query cs later)) n many

  -- after a limit
  pub enough_limited : (limited : Reach) → IsLimited query.limit_to_first query.limit_to_last reach limited → IsEnough query cs limited
  enough_limited limited = by_limits query.limit_to_first query.limit_to_last refl refl
    where
      unlimited : limited ≡ reach → IsEnough query cs limited
      unlimited same = subst (IsEnough query cs) (sym same) enough_all

      by_limits : (first last : Option ℕ) → query.limit_to_first ≡ first → query.limit_to_last ≡ last → IsLimited first last reach limited → IsEnough query cs limited
      by_limits None None first last same = unlimited same
      by_limits (Some n) None first last how = ⊎_elim unlimited (λ run. subst (IsEnough query cs) (sym run.2) (enough_first run.0 n run.1 first last)) how
      by_limits None (Some n) first last how = ⊎_elim unlimited (λ run. subst (IsEnough query cs) (sym run.2) (enough_last run.0 n run.1 first last)) how
      by_limits (Some n) (Some m) first last same = unlimited same

pub one_limit : (limit : Option Limit) → (first_of limit ≡ None) ⊎ (last_of limit ≡ None)
one_limit None = inl refl
one_limit (Some (First n)) = inr refl
one_limit (Some (Last n)) = inl refl

-- where all are looked at
pub enough_whole : (query : Query) (children : List Child) (reach : Reach) → (query.limit_to_first ≡ None) ⊎ (query.limit_to_last ≡ None) → ((i : ℕ) → i < length children → is_looked_at reach i ≡ true) → IsEnough query children reach
enough_whole query children reach limits every = record { limits = limits; others = λ i d within off inside. absurd (true≢false (sym (every i within) ∙ off)) }

-- ---- what is kept

pub enough_kept : (query : Query) (children : List Child) (reach : Reach) (items : List Item) (i : ℕ) → IsEnough query children reach → map item_seen items ≡ looked_upto query children reach i → length children ≤ i
    → kept_among query (map item_seen items) ≡ kept_among query (ranks_within query children)
enough_kept query children reach items i enough listed past =
    ap (kept_among query) (listed ∙ listed_all query.order children (λ (e : ℕ × Child). is_looked_at reach e.0 && is_within query e.1) i past)
    ∙ kept_thin (ranked query.order) (λ (e : ℕ × Child). is_looked_at reach e.0) (λ (e : ℕ × Child). is_within query e.1) (numbered 0 children) query.limit_to_first query.limit_to_last enough.limits (others_gone query children reach enough)

-- whether a rank is kept among those that were looked at
pub enough_same : (query : Query) (children : List Child) (reach : Reach) (i : ℕ) (r : Rank) → IsEnough query children reach → length children ≤ i
    → is_kept_of query.limit_to_first query.limit_to_last (looked_upto query children reach i) r ≡ is_kept_of query.limit_to_first query.limit_to_last (ranks_within query children) r
enough_same query children reach i r enough past =
    ap (λ rs. is_kept_of query.limit_to_first query.limit_to_last rs r) (listed_all query.order children (λ (e : ℕ × Child). is_looked_at reach e.0 && is_within query e.1) i past)
    ∙ sym (same_kept (ranked query.order) (λ (e : ℕ × Child). is_looked_at reach e.0) (λ (e : ℕ × Child). is_within query e.1) (numbered 0 children) query.limit_to_first query.limit_to_last enough.limits (others_gone query children reach enough) r)
