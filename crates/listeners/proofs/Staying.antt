-- Children that a query selects neither before nor after a change may change: what is selected stays.
use Rattle.std.proofs.Common.{◌≡◌, ◌≢◌, ℕ, zero, suc, ◌⊎◌, inl, inr, nat_lt, Bool, true, false, not, ◌&&◌, ◌||◌, cond, List, [], ◌∷◌, length, map, filter, Option, Some, None, is_some, Ordering, Less, Equal, Greater, is_lt, is_gt, true≢false, ⊎_elim, sym, ap, ◌∙◌, refl, subst}
use Rattle.std.specs.Prelude.{T}
use Rattle.std.specs.Str.{bytes_eq}
use Rattle.std.specs.Cmp.{tied_itself}
use Rattle.std.specs.Option.{option_map_or}
use Rattle.std.specs.List.{AllByRecursion, list_any}
use Rattle.std.specs.FinMap.{find, is_sorted}
use Rattle.std.specs.FinMap.Entries.{same_entries}
use Rattle.std.proofs.lemmas.Bool.{cases_Bool, and_left}
use Rattle.std.proofs.lemmas.Slice.Eq.{bytes_eq-Decides}
use Rattle.std.proofs.lemmas.List.Elements.{filter_agree}
use Rattle.tree_model.specs.Key.{Key, key_cmp}
use Rattle.tree_model.specs.Path.{Path}
use Rattle.tree_model.specs.PathMap.{get, sub, is_null}
use Rattle.tree_model.specs.Tree.{Tree, null, non_null}
use Rattle.tree_model.proofs.Choices.{or_right, or-false}
use Rattle.tree_model.proofs.Existence.{by_null}
use Rattle.tree_model.proofs.Lookups.{same_tree, get-sub, get-null}
use Rattle.tree_model.proofs.Orders.{bytes_eq-self, keys_total, exact_keys}
use Rattle.json_tree.proofs.Children.{each_subtree}
use Rattle.arena_snapshot.specs.Working.Change.{entries_of}
use Rattle.arena_snapshot.proofs.Sums.{entries_sorted, find-entries}
use Rattle.listeners.specs.Query.{Query, IsLawfulQuery, suits}
use Rattle.listeners.specs.Selection.{Child, is_within, is_kept, is_selected, selected}
use Rattle.listeners.specs.Working.Ranks.{Rank, rank_cmp, rank_of, numbered, ranked, ranks_within, is_among, other_ranks, is_kept_of}
use Rattle.listeners.proofs.Bounding.{is_sorted-filter}
use Rattle.listeners.proofs.Counts.{count-map, filter-filter, filter_each, each_weaker}
use Rattle.listeners.proofs.Keeping.{is_kept-rank, map_numbered}
use Rattle.listeners.proofs.Orders.{rank_total}
use Rattle.listeners.proofs.Showing.{passed, find-filter, get-kept, get-other, get-root}
use Rattle.listeners.proofs.Thinning.{same_kept}

-- ---- a query has one limit at most

pub one_limit_of : (query : Query) → IsLawfulQuery query → (query.limit_to_first ≡ None) ⊎ (query.limit_to_last ≡ None)
one_limit_of query lawful = by_limits query.limit_to_first query.limit_to_last refl refl
  where
    last_part : (a b c : Bool) → (a && b && c) ≡ true → c ≡ true
    last_part true true c h = h
    last_part true false c h = cc
    last_part false b c h = cc

    by_limits : (first last : Option ℕ) → query.limit_to_first ≡ first → query.limit_to_last ≡ last → (query.limit_to_first ≡ None) ⊎ (query.limit_to_last ≡ None)
    by_limits None last f l = inl f
    by_limits (Some n) None f l = inr l
    by_limits (Some n) (Some m) f l =
        let both : not (is_some query.limit_to_first && is_some query.limit_to_last) ≡ true = last_part (suits query.order query) (not (is_some query.equal_to && (is_some query.start_at || is_some query.end_at))) (not (is_some query.limit_to_first && is_some query.limit_to_last)) lawful.together in
        let off : not (is_some query.limit_to_first && is_some query.limit_to_last) ≡ false = λ i. not (is_some (f i) && is_some (l i)) in
        absurd (true≢false (sym both ∙ off))

-- ---- children by their keys

-- a child is what stands below its key, and something does
abbrev IsOwn : Tree → Child → Type 0
IsOwn t c = (c.1 ≡ sub t (c.0 ∷ [])) × (is_null (sub t (c.0 ∷ [])) ≡ false)

each_is_own : (t : Tree) → AllByRecursion (IsOwn t) (entries_of t)
each_is_own t = each_subtree (IsOwn t) t (λ k some. (refl, by_null (λ b. b ≡ false) (sub t (k ∷ [])) (λ none. absurd (some none)) (λ _. refl)))

all_numbered : (P : Child → Type 0) (n : ℕ) (cs : List Child) → AllByRecursion P cs → AllByRecursion (λ (e : ℕ × Child). P e.1) (numbered n cs)
all_numbered P n [] h = tt
all_numbered P n (c ∷ cs) h = (h.0, all_numbered P (suc n) cs h.1)

regroup : (a b c : Bool) → (a && b) && c ≡ a && (b && c)
regroup true b c = refl
regroup false b c = refl

nothing_kept : (a b : Bool) → b ≡ false → a && b ≡ false
nothing_kept true b h = h
nothing_kept false b h = refl

module _ (query : Query) (t : Tree) where
  abbrev es : List (ℕ × Child)
  es = numbered 0 (entries_of t)

  abbrev at : Key → Child
  at k = (k, sub t (k ∷ []))

  abbrev rank_at : Key → Rank
  rank_at k = rank_of query.order (at k)

  own : AllByRecursion (λ (e : ℕ × Child). IsOwn t e.1) es
  own = all_numbered (IsOwn t) 0 (entries_of t) (each_is_own t)

  is_at : (e : ℕ × Child) (k : Key) → IsOwn t e.1 → bytes_eq e.1.0 k ≡ true → e.1 ≡ at k
  is_at e k is same =
      let key : e.1.0 ≡ k = (bytes_eq-Decides e.1.0 k).0 same in
      (λ i. (e.1.0, is.0 i)) ∙ ap at key

  -- a limit, counting among these
  abbrev kept_with : List (ℕ × Rank) → Rank → Bool
  kept_with rs r = is_kept_of query.limit_to_first query.limit_to_last rs r

  abbrev others : List Key → List (ℕ × Rank)
  others ks = other_ranks query t ks

  -- ---- a child does not count where its own place is asked for

  module _ (j : Key) (p : ℕ × Child → Bool) where
    abbrev look : ℕ × Child → Bool
    look e = not (bytes_eq e.1.0 j)

    abbrev both : ℕ × Child → Bool
    both e = look e && p e

    module _ (test : Ordering → Bool) (tied : test Equal ≡ false) where
      abbrev ahead : ℕ × Child → Bool
      ahead e = test (rank_cmp (rank_of query.order e.1) (rank_at j))

      not_ahead : (e : ℕ × Child) → IsOwn t e.1 → bytes_eq e.1.0 j ≡ true → ahead e ≡ false
      not_ahead e is same = ap (λ c. test (rank_cmp (rank_of query.order c) (rank_at j))) (is_at e j is same) ∙ ap test (tied_itself rank_total (rank_at j)) ∙ tied

      each_same : (e : ℕ × Child) → IsOwn t e.1 → both e && ahead e ≡ p e && ahead e
      each_same e is = ⊎_elim
          (λ same. ap (λ b. (not b && p e) && ahead e) same ∙ sym (nothing_kept (p e) (ahead e) (not_ahead e is same)))
          (λ other. ap (λ b. (not b && p e) && ahead e) other)
          (cases_Bool (bytes_eq e.1.0 j))

      same_count : length (filter (λ (s : ℕ × Rank). test (rank_cmp s.1 (rank_at j))) (map (ranked query.order) (filter both es))) ≡ length (filter (λ (s : ℕ × Rank). test (rank_cmp s.1 (rank_at j))) (map (ranked query.order) (filter p es)))
      same_count =
          count-map (ranked query.order) (λ (s : ℕ × Rank). test (rank_cmp s.1 (rank_at j))) (filter both es)
          ∙ ap length (filter-filter ahead both es
          ∙ filter_each (λ e. both e && ahead e) (λ e. p e && ahead e) es (each_weaker (λ (e : ℕ × Child). IsOwn t e.1) (λ e. both e && ahead e ≡ p e && ahead e) each_same es own)
          ∙ sym (filter-filter ahead p es))
          ∙ sym (count-map (ranked query.order) (λ (s : ℕ × Rank). test (rank_cmp s.1 (rank_at j))) (filter p es))

    -- its own place is kept with it just where it is without it
    kept_without : kept_with (map (ranked query.order) (filter both es)) (rank_at j) ≡ kept_with (map (ranked query.order) (filter p es)) (rank_at j)
    kept_without = λ i.
        option_map_or (nat_lt (same_count is_lt refl i)) query.limit_to_first true
        && option_map_or (nat_lt (same_count is_gt refl i)) query.limit_to_last true

    -- and where it is not, it may be left out
    may_go : (query.limit_to_first ≡ None) ⊎ (query.limit_to_last ≡ None) → (is_null (sub t (j ∷ [])) ≡ false → ((e : ℕ × Child) → p e ≡ true → is_within query e.1 ≡ true) → is_within query (at j) ≡ true → kept_with (map (ranked query.order) (filter p es)) (rank_at j) ≡ false)
        → ((e : ℕ × Child) → p e ≡ true → is_within query e.1 ≡ true)
        → (r : Rank) → kept_with (map (ranked query.order) (filter p es)) r ≡ kept_with (map (ranked query.order) (filter both es)) r
    may_go limits none within r = same_kept (ranked query.order) look p es query.limit_to_first query.limit_to_last limits (each_weaker (λ (e : ℕ × Child). IsOwn t e.1) (λ e. look e ≡ false → p e ≡ true → kept_with (map (ranked query.order) (filter both es)) (rank_of query.order e.1) ≡ false) lost es own) r
      where
        not_false : (b : Bool) → not b ≡ false → b ≡ true
        not_false true h = refl
        not_false false h = cc

        lost : (e : ℕ × Child) → IsOwn t e.1 → look e ≡ false → p e ≡ true → kept_with (map (ranked query.order) (filter both es)) (rank_of query.order e.1) ≡ false
        lost e is gone passes =
            let here : e.1 ≡ at j = is_at e j is (not_false (bytes_eq e.1.0 j) gone) in
            let key : e.1.0 ≡ j = ap (λ (c : Child). c.0) here in
            ap (λ (c : Child). kept_with (map (ranked query.order) (filter both es)) (rank_of query.order c)) here
            ∙ kept_without
            ∙ none (ap (λ (k : Key). is_null (sub t (k ∷ []))) (sym key) ∙ is.1) within (ap (is_within query) (sym here) ∙ within e passes)

  -- ---- several of them

  -- a child that is not selected has no place that the limit keeps
  no_place : (k : Key) → is_selected query t k ≡ false → is_null (sub t (k ∷ [])) ≡ false → is_within query (at k) ≡ true → kept_with (ranks_within query (entries_of t)) (rank_at k) ≡ false
  no_place k unselected some within =
      sym ((λ i. not (some i) && is_kept query (entries_of t) (at k)) ∙ is_kept-rank query (entries_of t) (at k) ∙ ap (λ b. b && kept_with (ranks_within query (entries_of t)) (rank_at k)) within)
      ∙ unselected

  one_more : (j : Key) (ks : List Key) → (query.limit_to_first ≡ None) ⊎ (query.limit_to_last ≡ None) → is_selected query t j ≡ false
      → ((r : Rank) → kept_with (ranks_within query (entries_of t)) r ≡ kept_with (others ks) r)
      → (r : Rank) → kept_with (ranks_within query (entries_of t)) r ≡ kept_with (others (j ∷ ks)) r
  one_more j ks limits unselected before r =
      before r
      ∙ may_go j (λ e. not (is_among e.1.0 ks) && is_within query e.1) limits
      (λ some _ within. sym (before (rank_at j)) ∙ no_place j unselected some within)
      (λ e h. second (not (is_among e.1.0 ks)) (is_within query e.1) h) r
      ∙ ap (λ es. kept_with (map (ranked query.order) es) r) (filter_agree (λ (e : ℕ × Child). not (bytes_eq e.1.0 j) && (not (is_among e.1.0 ks) && is_within query e.1)) (λ e. not (is_among e.1.0 (j ∷ ks)) && is_within query e.1) (λ e. neither_of (bytes_eq e.1.0 j) (is_among e.1.0 ks) (is_within query e.1)) es)
    where
      second : (a b : Bool) → (a && b) ≡ true → b ≡ true
      second true b h = h
      second false b h = cc

      neither_of : (a b c : Bool) → not a && (not b && c) ≡ not (a || b) && c
      neither_of true b c = refl
      neither_of false b c = refl

  pub kept_by_others : (ks : List Key) → (query.limit_to_first ≡ None) ⊎ (query.limit_to_last ≡ None) → ((k : Key) → is_among k ks ≡ true → is_selected query t k ≡ false)
      → (r : Rank) → kept_with (ranks_within query (entries_of t)) r ≡ kept_with (others ks) r
  kept_by_others [] limits none r = refl
  kept_by_others (j ∷ ks) limits none r = one_more j ks limits (none j (ap (λ b. b || is_among j ks) (bytes_eq-self j))) (kept_by_others ks limits (λ k among. none k (or_right (bytes_eq k j) (is_among k ks) among))) r

  -- ---- of those that stay, the limit sees no more than them

  abbrev stays_among : List Key → Child → Bool
  stays_among ks c = not (is_among c.0 ks)

  counted_others : (ks : List Key) (test : Ordering → Bool) (r : Rank)
      → length (filter (λ (s : ℕ × Rank). test (rank_cmp s.1 r)) (others ks)) ≡ length (filter (λ (c : Child). is_within query c && test (rank_cmp (rank_of query.order c) r)) (filter (stays_among ks) (entries_of t)))
  counted_others ks test r =
      count-map (ranked query.order) (λ (s : ℕ × Rank). test (rank_cmp s.1 r)) (filter (λ e. stays_among ks e.1 && is_within query e.1) es)
      ∙ ap length (filter-filter (λ (e : ℕ × Child). ahead e.1) (λ e. stays_among ks e.1 && is_within query e.1) es)
      ∙ sym (count-map (λ (e : ℕ × Child). e.1) (λ c. (stays_among ks c && is_within query c) && ahead c) es)
      ∙ ap (λ cs. length (filter (λ c. (stays_among ks c && is_within query c) && ahead c) cs)) (map_numbered 0 (entries_of t))
      ∙ ap length (filter_agree (λ c. (stays_among ks c && is_within query c) && ahead c) (λ c. stays_among ks c && (is_within query c && ahead c)) (λ c. regroup (stays_among ks c) (is_within query c) (ahead c)) (entries_of t)
      ∙ sym (filter-filter (λ c. is_within query c && ahead c) (stays_among ks) (entries_of t)))
    where
      ahead : Child → Bool
      ahead c = test (rank_cmp (rank_of query.order c) r)

-- ---- two trees that differ in some children

module _ (query : Query) (t u : Tree) (ks : List Key) (same : (k : Key) → is_among k ks ≡ false → sub t (k ∷ []) ≡ sub u (k ∷ [])) where
  abbrev stays : Child → Bool
  stays c = not (is_among c.0 ks)

  gone : (k : Key) (o : Option Tree) → is_among k ks ≡ true → passed stays k o ≡ None
  gone k None among = refl
  gone k (Some v) among = ap (λ b. cond (not b) (Some v) None) among

  same_found : (k : Key) → find key_cmp k (filter stays (entries_of t)) ≡ find key_cmp k (filter stays (entries_of u))
  same_found k =
      find-filter stays k (entries_of t) (entries_sorted t)
      ∙ ap (passed stays k) (find-entries t k)
      ∙ ⊎_elim
      (λ among. gone k (non_null (sub t (k ∷ []))) among ∙ sym (gone k (non_null (sub u (k ∷ []))) among))
      (λ other. ap (λ v. passed stays k (non_null v)) (same k other))
      (cases_Bool (is_among k ks))
      ∙ sym (find-filter stays k (entries_of u) (entries_sorted u) ∙ ap (passed stays k) (find-entries u k))

  sorted : (v : Tree) → T (is_sorted key_cmp (filter stays (entries_of v)))
  sorted v = subst T (sym (is_sorted-filter stays (entries_of v) (entries_sorted v))) tt

  same_rest : filter stays (entries_of t) ≡ filter stays (entries_of u)
  same_rest = same_entries key_cmp keys_total exact_keys (filter stays (entries_of t)) (filter stays (entries_of u)) (sorted t) (sorted u) same_found

  same_others : (test : Ordering → Bool) (r : Rank) → length (filter (λ (s : ℕ × Rank). test (rank_cmp s.1 r)) (other_ranks query t ks)) ≡ length (filter (λ (s : ℕ × Rank). test (rank_cmp s.1 r)) (other_ranks query u ks))
  same_others test r =
      counted_others query t ks test r
      ∙ ap (λ cs. length (filter (λ (c : Child). is_within query c && test (rank_cmp (rank_of query.order c) r)) cs)) same_rest
      ∙ sym (counted_others query u ks test r)

  kept_alike : (r : Rank) → is_kept_of query.limit_to_first query.limit_to_last (other_ranks query t ks) r ≡ is_kept_of query.limit_to_first query.limit_to_last (other_ranks query u ks) r
  kept_alike r = λ i.
      option_map_or (nat_lt (same_others is_lt r i)) query.limit_to_first true
      && option_map_or (nat_lt (same_others is_gt r i)) query.limit_to_last true

-- what is not selected is not in the selection
unselected : (query : Query) (t : Tree) (k : Key) (path : Path) → is_selected query t k ≡ false → get (selected query t) (k ∷ path) ≡ None
unselected query t k path h = ⊎_elim
    (λ kept. get-kept query t k path kept ∙ by_null (λ b. not b && is_kept query (entries_of t) (k, sub t (k ∷ [])) ≡ false → get t (k ∷ path) ≡ None) (sub t (k ∷ []))
    (λ none _. sym (get-sub t (k ∷ []) path) ∙ ap (λ v. get v path) none ∙ get-null path)
    (λ _ not_kept. absurd (true≢false (sym kept ∙ not_kept))) h)
    (λ left. get-other query t k path left)
    (cases_Bool (is_kept query (entries_of t) (k, sub t (k ∷ []))))

-- where only children change that are selected neither before nor after, the selection stays
pub selected_stays : (query : Query) (t u : Tree) (ks : List Key) → IsLawfulQuery query → ((k : Key) → is_among k ks ≡ false → sub t (k ∷ []) ≡ sub u (k ∷ []))
    → ((k : Key) → is_among k ks ≡ true → (is_selected query t k ≡ false) × (is_selected query u k ≡ false))
    → selected query t ≡ selected query u
selected_stays query t u ks lawful same none = same_tree (selected query t) (selected query u) at_path
  where
    limits : (query.limit_to_first ≡ None) ⊎ (query.limit_to_last ≡ None)
    limits = one_limit_of query lawful

    alike : (c : Child) → is_kept query (entries_of t) c ≡ is_kept query (entries_of u) c
    alike c =
        is_kept-rank query (entries_of t) c
        ∙ ap (λ b. is_within query c && b)
        (kept_by_others query t ks limits (λ k among. (none k among).0) (rank_of query.order c)
        ∙ kept_alike query t u ks same (rank_of query.order c)
        ∙ sym (kept_by_others query u ks limits (λ k among. (none k among).1) (rank_of query.order c)))
        ∙ sym (is_kept-rank query (entries_of u) c)

    below : (k : Key) (path : Path) → sub t (k ∷ []) ≡ sub u (k ∷ []) → get (selected query t) (k ∷ path) ≡ get (selected query u) (k ∷ path)
    below k path is = ⊎_elim
        (λ kept.
        get-kept query t k path kept
        ∙ sym (get-sub t (k ∷ []) path) ∙ ap (λ v. get v path) is ∙ get-sub u (k ∷ []) path
        ∙ sym (get-kept query u k path (kept_too kept)))
        (λ left. get-other query t k path left ∙ sym (get-other query u k path (kept_too left)))
        (cases_Bool (is_kept query (entries_of t) (k, sub t (k ∷ []))))
      where
        kept_too : {b : Bool} → is_kept query (entries_of t) (k, sub t (k ∷ [])) ≡ b → is_kept query (entries_of u) (k, sub u (k ∷ [])) ≡ b
        kept_too h = ap (λ v. is_kept query (entries_of u) (k, v)) (sym is) ∙ sym (alike (k, sub t (k ∷ []))) ∙ h

    at_path : (q : Path) → get (selected query t) q ≡ get (selected query u) q
    at_path [] = get-root query t ∙ sym (get-root query u)
    at_path (k ∷ path) = ⊎_elim
        (λ among. unselected query t k path (none k among).0 ∙ sym (unselected query u k path (none k among).1))
        (λ other. below k path (same k other))
        (cases_Bool (is_among k ks))

-- the same, where of each child it is known that it stays or is not selected; all that change are among these keys
module _ (query : Query) (t u : Tree) where
  abbrev pub IsLeft : Key → Type 0
  IsLeft k = (sub t (k ∷ []) ≡ sub u (k ∷ [])) ⊎ ((is_selected query t k ≡ false) × (is_selected query u k ≡ false))

  module _ (each : (k : Key) → IsLeft k) where
    abbrev changes : Key → Bool
    changes k = elim (each k) [ inl same ↦ false | inr none ↦ true ]

    abbrev changing : List Key → List Key
    changing [] = []
    changing (k ∷ ks) = cond (changes k) (k ∷ changing ks) (changing ks)

    unselected_both : (k : Key) → changes k ≡ true → (is_selected query t k ≡ false) × (is_selected query u k ≡ false)
    unselected_both k h = elim (each k) as (λ o. elim o [ inl same ↦ false | inr none ↦ true ] ≡ true → (is_selected query t k ≡ false) × (is_selected query u k ≡ false)) [
      | inl same ↦ λ off. cc
      | inr none ↦ λ _. none
    ] h

    same_below : (k : Key) → changes k ≡ false → sub t (k ∷ []) ≡ sub u (k ∷ [])
    same_below k h = elim (each k) as (λ o. elim o [ inl same ↦ false | inr none ↦ true ] ≡ false → sub t (k ∷ []) ≡ sub u (k ∷ [])) [
      | inl same ↦ λ _. same
      | inr none ↦ λ off. cc
    ] h

    among_changing : (k : Key) (ks : List Key) → is_among k (changing ks) ≡ true → changes k ≡ true
    among_changing k [] h = cc
    among_changing k (j ∷ ks) h = ⊎_elim
        (λ on. ⊎_elim
        (λ same. ap changes ((bytes_eq-Decides k j).0 same) ∙ on)
        (λ other. among_changing k ks ((λ i. sym other i || is_among k (changing ks)) ∙ ap (λ b. is_among k (cond b (j ∷ changing ks) (changing ks))) (sym on) ∙ h))
        (cases_Bool (bytes_eq k j)))
        (λ off. among_changing k ks (ap (λ b. is_among k (cond b (j ∷ changing ks) (changing ks))) (sym off) ∙ h))
        (cases_Bool (changes j))

    changing_among : (k : Key) (ks : List Key) → is_among k ks ≡ true → changes k ≡ true → is_among k (changing ks) ≡ true
    changing_among k [] h on = h
    changing_among k (j ∷ ks) h on = ⊎_elim
        (λ same.
        let here : changes j ≡ true = ap changes (sym ((bytes_eq-Decides k j).0 same)) ∙ on in
        ap (λ b. is_among k (cond b (j ∷ changing ks) (changing ks))) here ∙ ap (λ b. b || is_among k (changing ks)) same)
        (λ other.
        let rest = changing_among k ks ((λ i. sym other i || is_among k ks) ∙ h) on in
        ⊎_elim
        (λ in_front. ap (λ b. is_among k (cond b (j ∷ changing ks) (changing ks))) in_front ∙ or_right (bytes_eq k j) (is_among k (changing ks)) rest)
        (λ not_there. ap (λ b. is_among k (cond b (j ∷ changing ks) (changing ks))) not_there ∙ rest)
        (cases_Bool (changes j)))
        (cases_Bool (bytes_eq k j))

    pub selected_left : (ks : List Key) → IsLawfulQuery query → ((k : Key) → is_among k ks ≡ false → sub t (k ∷ []) ≡ sub u (k ∷ [])) → selected query t ≡ selected query u
    selected_left ks lawful other = selected_stays query t u (changing ks) lawful
        (λ k out. ⊎_elim
        (λ on. ⊎_elim
        (λ among. absurd (true≢false (sym (changing_among k ks among on) ∙ out)))
        (λ beside. other k beside)
        (cases_Bool (is_among k ks)))
        (λ off. same_below k off)
        (cases_Bool (changes k)))
        (λ k among. unselected_both k (among_changing k ks among))

-- ---- a child that changes and is selected

-- what is selected stands in the selection
selected_whole : (query : Query) (t : Tree) (k : Key) → is_selected query t k ≡ true → (sub (selected query t) (k ∷ []) ≡ sub t (k ∷ [])) × (sub t (k ∷ []) ≢ null)
selected_whole query t k h = (
  same_tree _ _ (λ path. get-sub (selected query t) (k ∷ []) path ∙ get-kept query t k path kept ∙ sym (get-sub t (k ∷ []) path)),
  by_null (λ b. not b && is_kept query (entries_of t) (k, sub t (k ∷ [])) ≡ true → sub t (k ∷ []) ≢ null) (sub t (k ∷ [])) (λ _ off. cc) (λ some _. some) h,
)
  where
    second : (a b : Bool) → (a && b) ≡ true → b ≡ true
    second true b g = g
    second false b g = cc

    kept : is_kept query (entries_of t) (k, sub t (k ∷ [])) ≡ true
    kept = second (not (is_null (sub t (k ∷ [])))) _ h

-- what stands below a key of the selection is that child, or nothing
selected_below : (query : Query) (t : Tree) (k : Key) → (sub (selected query t) (k ∷ []) ≡ sub t (k ∷ [])) ⊎ (sub (selected query t) (k ∷ []) ≡ null)
selected_below query t k = ⊎_elim
    (λ is. inl (selected_whole query t k is).0)
    (λ off. inr (same_tree _ _ (λ path. get-sub (selected query t) (k ∷ []) path ∙ unselected query t k path off ∙ sym (get-null path))))
    (cases_Bool (is_selected query t k))

-- where a child changes that is selected before or after, the selection does
pub selected_moves : (query : Query) (t u : Tree) (k : Key) → sub t (k ∷ []) ≢ sub u (k ∷ []) → (is_selected query t k ≡ true) ⊎ (is_selected query u k ≡ true) → selected query t ≢ selected query u
selected_moves query t u k differs which same = ⊎_elim
    (λ is.
    let whole = selected_whole query t k is in
    let here : sub (selected query u) (k ∷ []) ≡ sub t (k ∷ []) = ap (λ v. sub v (k ∷ [])) (sym same) ∙ whole.0 in
    ⊎_elim (λ own. differs (sym here ∙ own)) (λ none. whole.1 (sym here ∙ none)) (selected_below query u k))
    (λ is.
    let whole = selected_whole query u k is in
    let here : sub (selected query t) (k ∷ []) ≡ sub u (k ∷ []) = ap (λ v. sub v (k ∷ [])) same ∙ whole.0 in
    ⊎_elim (λ own. differs (sym own ∙ here)) (λ none. whole.1 (sym here ∙ none)) (selected_below query t k))
    which

-- ---- where one child alone changes

-- a child has its place among all just where it has it among the others
pub kept_beside : (query : Query) (t u : Tree) (k : Key) → ((j : Key) → j ≢ k → sub t (j ∷ []) ≡ sub u (j ∷ []))
    → is_kept_of query.limit_to_first query.limit_to_last (other_ranks query t (k ∷ [])) (rank_of query.order (k, sub u (k ∷ []))) ≡ is_kept_of query.limit_to_first query.limit_to_last (ranks_within query (entries_of u)) (rank_of query.order (k, sub u (k ∷ [])))
kept_beside query t u k same =
    kept_alike query t u (k ∷ []) apart (rank_of query.order (k, sub u (k ∷ [])))
    ∙ ap (λ es. is_kept_of query.limit_to_first query.limit_to_last (map (ranked query.order) es) (rank_of query.order (k, sub u (k ∷ []))))
    (filter_agree (λ (e : ℕ × Child). not (is_among e.1.0 (k ∷ [])) && is_within query e.1) (λ e. not (bytes_eq e.1.0 k) && is_within query e.1) (λ e. ap (λ b. not b && is_within query e.1) (or-false (bytes_eq e.1.0 k))) (numbered 0 (entries_of u)))
    ∙ kept_without query u k (λ e. is_within query e.1)
  where
    apart : (j : Key) → is_among j (k ∷ []) ≡ false → sub t (j ∷ []) ≡ sub u (j ∷ [])
    apart j out = same j (λ is. true≢false (sym (ap (λ (l : Key). bytes_eq j l || false) (sym is) ∙ ap (λ b. b || false) (bytes_eq-self j)) ∙ out))
