-- The indices that the code keeps are those of the selection.
use Rattle.std.proofs.Common.{◌≡◌, ℕ, suc, ◌+◌, ◌≤◌, ◌<◌, nat_lt, Bool, true, false, ◌&&◌, cond, List, [], ◌∷◌, length, map, get_or, filter, Option, Some, None, is_lt, is_gt, sym, ap, ◌∙◌, refl, subst, arith}
use Rattle.std.specs.Option.{option_map_or}
use Rattle.std.specs.List.{filter_map, slice_get, AllPairs, cons_option}
use Rattle.std.proofs.lemmas.Bool.{cond_both}
use Rattle.std.specs.List.{All}
use Rattle.std.proofs.lemmas.List.Elements.{filter_agree, All-nil, All-cons, All-weaker}
use Rattle.std.proofs.lemmas.List.Kept.{AllPairs-cons}
use Rattle.std.proofs.lemmas.Option.{slice_get-get_or}
use Rattle.tree_model.specs.Tree.{Tree, null}
use Rattle.tree_model.specs.Children.{graft}
use Rattle.json_tree.proofs.Proposing.{empty_graft}
use Rattle.arena_snapshot.proofs.Ranks.{width-entries, child_keys-null}
use Rattle.arena_snapshot.specs.Kept.{kept, StrictlyAscend}
use Rattle.arena_snapshot.specs.Working.Change.{entries_of}
use Rattle.listeners.specs.Query.{Order, by_key, by_value, by_child, Query}
use Rattle.listeners.specs.Selection.{Child, child_cmp, is_within, within, before, after, is_kept, selected}
use Rattle.listeners.specs.Order.{list_cmp, place_cmp}
use Rattle.listeners.specs.declared.item.Item.{Item}
use Rattle.listeners.specs.Working.Items.{item_seen, rank_seen}
use Rattle.listeners.specs.Working.Ranks.{Rank, rank_cmp, rank_of, numbered, ranked, ranks_within, count_before, count_behind, is_kept_of}
use Rattle.listeners.specs.Working.Reach.{kept_among}
use Rattle.listeners.proofs.Counts.{filter-map, filter-filter, count-map}

-- ---- the order of children is that of their ranks

pub child_cmp-rank : (order : Option Order) (c d : Child) → child_cmp order c d ≡ rank_cmp (rank_of order c) (rank_of order d)
unfolding list_cmp place_cmp
child_cmp-rank None c d = refl
child_cmp-rank (Some by_key) c d = refl
child_cmp-rank (Some by_value) c d = refl
child_cmp-rank (Some (by_child path)) c d = refl

-- ---- children with their indices

pub map_numbered : (n : ℕ) (cs : List Child) → map (λ (e : ℕ × Child). e.1) (numbered n cs) ≡ cs
map_numbered n [] = refl
map_numbered n (c ∷ cs) = ap (λ ds. c ∷ ds) (map_numbered (suc n) cs)

-- the indices, from n on, of those that pass
abbrev pub indices_from : (Child → Bool) → ℕ → List Child → List ℕ
indices_from p n cs = map (λ (e : ℕ × Child). e.0) (filter (λ (e : ℕ × Child). p e.1) (numbered n cs))

map-cond : (b : Bool) (e : ℕ × Child) (es : List (ℕ × Child)) → map (λ (e : ℕ × Child). e.0) (cond b (e ∷ es) es) ≡ cond b (e.0 ∷ map (λ (e : ℕ × Child). e.0) es) (map (λ (e : ℕ × Child). e.0) es)
map-cond true e es = refl
map-cond false e es = refl

indices_cons : (p : Child → Bool) (n : ℕ) (c : Child) (cs : List Child) → indices_from p n (c ∷ cs) ≡ cond (p c) (n ∷ indices_from p (suc n) cs) (indices_from p (suc n) cs)
indices_cons p n c cs = map-cond (p c) (n, c) (filter (λ (e : ℕ × Child). p e.1) (numbered (suc n) cs))

-- what is read at them
read-cond : {Y : Type 0} (h : ℕ → Option Y) (b : Bool) (n : ℕ) (ns : List ℕ) (y : Y) → h n ≡ Some y → filter_map h (cond b (n ∷ ns) ns) ≡ cond b (y ∷ filter_map h ns) (filter_map h ns)
read-cond h true n ns y is = ap (λ o. cons_option o (filter_map h ns)) is
read-cond h false n ns y is = refl

read_at : (h : ℕ → Option Child) (p : Child → Bool) (n : ℕ) (cs : List Child) → ((k : ℕ) (d : Child) → k < length cs → h (n + k) ≡ Some (get_or cs k d)) → filter_map h (indices_from p n cs) ≡ filter p cs
read_at h p n [] reads = refl
read_at h p n (c ∷ cs) reads =
    ap (filter_map h) (indices_cons p n c cs)
    ∙ read-cond h (p c) n (indices_from p (suc n) cs) c (subst (λ m. h m ≡ Some c) (omega arith) (reads 0 c (omega arith)))
    ∙ ap (λ ds. cond (p c) (c ∷ ds) ds) (read_at h p (suc n) cs (λ k d lt. subst (λ m. h m ≡ Some (get_or cs k d)) (omega arith) (reads (suc k) d (omega arith))))

-- they ascend
from_n : (p : Child → Bool) (n m : ℕ) (cs : List Child) → m ≤ n → All (λ i. m ≤ i) (indices_from p n cs)
from_n p n m [] le = All-nil (λ i. m ≤ i)
from_n p n m (c ∷ cs) le =
    let rest = from_n p (suc n) m cs (omega arith) in
    subst (All (λ i. m ≤ i)) (sym (indices_cons p n c cs)) (cond_both (p c) _ _ (All (λ i. m ≤ i)) (λ _. All-cons (λ i. m ≤ i) n _ le rest) (λ _. rest))

ascend : (p : Child → Bool) (n : ℕ) (cs : List Child) → AllPairs (λ i j. i < j) (indices_from p n cs)
ascend p n [] = λ i j d lt within. absurd (omega arith)
ascend p n (c ∷ cs) =
    let rest = ascend p (suc n) cs in
    subst (AllPairs (λ i j. i < j)) (sym (indices_cons p n c cs)) (cond_both (p c) _ _ (AllPairs (λ i j. i < j)) (λ _. AllPairs-cons (λ i j. i < j) n _ (All-weaker (λ i. suc n ≤ i) (λ i. n < i) (λ i le. omega arith) _ (from_n p (suc n) (suc n) cs (omega arith))) rest) (λ _. rest))

-- ---- the indices of a selection

and_assoc : (a b c : Bool) → (a && b) && c ≡ a && (b && c)
and_assoc true b c = refl
and_assoc false b c = refl

module _ (query : Query) (cs : List Child) where
  abbrev kept_rank : Rank → Bool
  kept_rank r = is_kept_of query.limit_to_first query.limit_to_last (ranks_within query cs) r

  abbrev numbered_within : List (ℕ × Child)
  numbered_within = filter (λ (e : ℕ × Child). is_within query e.1) (numbered 0 cs)

  within-numbered : within query cs ≡ map (λ (e : ℕ × Child). e.1) numbered_within
  within-numbered = ap (filter (is_within query)) (sym (map_numbered 0 cs)) ∙ filter-map (λ (e : ℕ × Child). e.1) (is_within query) (numbered 0 cs)

  -- ranks are counted over the ranks
  before-ranks : (c : Child) → before query.order c (within query cs) ≡ count_before (rank_of query.order c) (ranks_within query cs)
  before-ranks c =
      ap (before query.order c) within-numbered
      ∙ count-map (λ (e : ℕ × Child). e.1) (λ d. is_lt (child_cmp query.order d c)) numbered_within
      ∙ ap length (filter_agree (λ (e : ℕ × Child). is_lt (child_cmp query.order e.1 c)) (λ e. is_lt (rank_cmp (rank_of query.order e.1) (rank_of query.order c))) (λ e. ap is_lt (child_cmp-rank query.order e.1 c)) numbered_within)
      ∙ sym (count-map (ranked query.order) (λ s. is_lt (rank_cmp s.1 (rank_of query.order c))) numbered_within)

  after-ranks : (c : Child) → after query.order c (within query cs) ≡ count_behind (rank_of query.order c) (ranks_within query cs)
  after-ranks c =
      ap (after query.order c) within-numbered
      ∙ count-map (λ (e : ℕ × Child). e.1) (λ d. is_gt (child_cmp query.order d c)) numbered_within
      ∙ ap length (filter_agree (λ (e : ℕ × Child). is_gt (child_cmp query.order e.1 c)) (λ e. is_gt (rank_cmp (rank_of query.order e.1) (rank_of query.order c))) (λ e. ap is_gt (child_cmp-rank query.order e.1 c)) numbered_within)
      ∙ sym (count-map (ranked query.order) (λ s. is_gt (rank_cmp s.1 (rank_of query.order c))) numbered_within)

  pub is_kept-rank : (c : Child) → is_kept query cs c ≡ is_within query c && kept_rank (rank_of query.order c)
  is_kept-rank c =
      (λ i. is_within query c && option_map_or (nat_lt (before-ranks c i)) query.limit_to_first true && option_map_or (nat_lt (after-ranks c i)) query.limit_to_last true)
      ∙ and_assoc (is_within query c) _ _

  -- the indices of the items that lie inside
  pub indices_kept : (items : List Item) (inside : Rank → Bool) → kept_among query (map item_seen items) ≡ kept_among query (ranks_within query cs) → ((r : Rank) → inside r ≡ is_kept_of query.limit_to_first query.limit_to_last (map item_seen items) r)
      → map (λ (it : Item). it.index) (filter (λ (it : Item). inside (rank_seen it)) items) ≡ indices_from (is_kept query cs) 0 cs
  indices_kept items inside same edge =
      sym (map-map-index (filter (λ (it : Item). inside (rank_seen it)) items))
      ∙ ap (map (λ (s : ℕ × Rank). s.0)) (sym (filter-map item_seen (λ s. inside s.1) items))
      ∙ ap (map (λ (s : ℕ × Rank). s.0)) (filter_agree (λ s. inside s.1) (λ s. is_kept_of query.limit_to_first query.limit_to_last (map item_seen items) s.1) (λ s. edge s.1) (map item_seen items) ∙ same)
      ∙ ap (map (λ (s : ℕ × Rank). s.0)) (filter-map (ranked query.order) (λ s. kept_rank s.1) numbered_within)
      ∙ map-map-ranked (filter (λ (e : ℕ × Child). kept_rank (rank_of query.order e.1)) numbered_within)
      ∙ ap (map (λ (e : ℕ × Child). e.0)) (filter-filter (λ (e : ℕ × Child). kept_rank (rank_of query.order e.1)) (λ (e : ℕ × Child). is_within query e.1) (numbered 0 cs)
      ∙ filter_agree (λ (e : ℕ × Child). is_within query e.1 && kept_rank (rank_of query.order e.1)) (λ (e : ℕ × Child). is_kept query cs e.1) (λ e. sym (is_kept-rank e.1)) (numbered 0 cs))
    where
      map-map-index : (its : List Item) → map (λ (s : ℕ × Rank). s.0) (map item_seen its) ≡ map (λ (it : Item). it.index) its
      map-map-index [] = refl
      map-map-index (it ∷ its) = ap (λ ns. it.index ∷ ns) (map-map-index its)

      map-map-ranked : (es : List (ℕ × Child)) → map (λ (s : ℕ × Rank). s.0) (map (ranked query.order) es) ≡ map (λ (e : ℕ × Child). e.0) es
      map-map-ranked [] = refl
      map-map-ranked (e ∷ es) = ap (λ ns. e.0 ∷ ns) (map-map-ranked es)

-- ---- the tree of the kept children

pub indices_ascend : (query : Query) (t : Tree) → StrictlyAscend (indices_from (is_kept query (entries_of t)) 0 (entries_of t))
indices_ascend query t = ascend (is_kept query (entries_of t)) 0 (entries_of t)

pub kept_selected : (query : Query) (t : Tree) → kept t (indices_from (is_kept query (entries_of t)) 0 (entries_of t)) ≡ selected query t
unfolding kept
kept_selected query t = ap graft (read_at (slice_get (entries_of t)) (is_kept query (entries_of t)) 0 (entries_of t) (λ k d lt. ap (slice_get (entries_of t)) (omega arith) ∙ slice_get-get_or (entries_of t) k d lt))

-- of nothing nothing is selected
entries-null : (cs : List Child) → length cs ≡ 0 → cs ≡ []
entries-null [] h = refl
entries-null (c ∷ cs) h = absurd (omega arith)

pub selected-null : (query : Query) → selected query null ≡ null
selected-null query =
    ap (λ cs. graft (filter (is_kept query cs) cs)) (entries-null (entries_of null) (sym (width-entries null) ∙ ap length child_keys-null))
    ∙ empty_graft
