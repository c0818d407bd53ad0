-- The list of the children within the bounds, child by child.
use Rattle.std.proofs.Common.{◌≡◌, ℕ, zero, suc, ◌+◌, ◌-◌, ◌<◌, ◌≤◌, nat_le, append_assoc, Bool, true, false, not, ◌&&◌, cond, List, [], ◌∷◌, ◌++◌, length, map, get_or, take, filter, Option, Some, None, Ordering, is_lt, is_gt, is_eq, sym, ap, ◌∙◌, refl, arith}
use Rattle.std.specs.Prelude.{option_map}
use Rattle.std.specs.Option.{option_map_or}
use Rattle.std.specs.List.{slice_get}
use Rattle.std.proofs.lemmas.Bool.{and_left, le-leb, lt-leb}
use Rattle.std.proofs.lemmas.List.{map-append, append-nil, take_all, get_or_default}
use Rattle.std.proofs.lemmas.List.Elements.{filter_more}
use Rattle.std.proofs.lemmas.Option.{slice_get-get_or}
use Rattle.tree_model.specs.Tree.{null}
use Rattle.tree_model.specs.Primitive.{Primitive, truth, whole, words}
use Rattle.listeners.specs.Order.{list_cmp}
use Rattle.listeners.specs.Query.{Order, by_key, by_value, by_child, Query}
use Rattle.listeners.specs.Selection.{Child, beside, is_within}
use Rattle.listeners.specs.declared.item.Item.{Item}
use Rattle.listeners.specs.Working.Items.{item_seen, rank_seen}
use Rattle.listeners.specs.Working.Ranks.{Rank, Marks, rank_of, mark_of, mark_cmp, marks_of, is_between, numbered, ranked}
use Rattle.listeners.specs.declared.reach.Stretch.{Stretch}
use Rattle.listeners.specs.declared.reach.Reach.{Reach}
use Rattle.listeners.specs.Working.Reach.{is_looked_at, ranks_between, IsStretch}

-- ---- bounds, as ranks stand beside them

beside-mark : (order : Option Order) (c : Child) (v : Primitive) → beside order c v ≡ mark_cmp (rank_of order c) (mark_of order v)
unfolding list_cmp
beside-mark None c (truth b) = refl
beside-mark None c (whole z) = refl
beside-mark None c (words s) = refl
beside-mark (Some by_key) c (truth b) = refl
beside-mark (Some by_key) c (whole z) = refl
beside-mark (Some by_key) c (words s) = refl
beside-mark (Some by_value) c v = refl
beside-mark (Some (by_child path)) c v = refl

module _ (order : Option Order) (c : Child) (test : Ordering → Bool) where
  bound-mark : (bound : Option Primitive) → option_map_or (λ b. test (beside order c b)) bound true ≡ option_map_or (λ m. test (mark_cmp (rank_of order c) m)) (option_map (mark_of order) bound) true
  bound-mark None = refl
  bound-mark (Some v) = ap test (beside-mark order c v)

pub is_within-between : (query : Query) (c : Child) → is_within query c ≡ is_between (marks_of query) (rank_of query.order c)
is_within-between query c = λ i.
    bound-mark query.order c (λ o. not (is_lt o)) query.start_at i
    && bound-mark query.order c (λ o. not (is_gt o)) query.end_at i
    && bound-mark query.order c (λ o. is_eq o) query.equal_to i

-- ---- child by child

pub length-numbered : (n : ℕ) (cs : List Child) → length (numbered n cs) ≡ length cs
length-numbered n [] = refl
length-numbered n (c ∷ cs) = ap suc (length-numbered (suc n) cs)

pub numbered_at : (n i : ℕ) (cs : List Child) (e : ℕ × Child) → i < length cs → get_or (numbered n cs) i e ≡ (n + i, get_or cs i e.1)
numbered_at n i [] e within = absurd (omega arith)
numbered_at n zero (c ∷ cs) e within = ap (λ m. (m, c)) (omega arith)
numbered_at n (suc i) (c ∷ cs) e within = numbered_at (suc n) i cs e (omega arith) ∙ ap (λ m. (m, get_or cs i e.1)) (omega arith)

module _ (order : Option Order) (cs : List Child) (p : ℕ × Child → Bool) where
  -- the ranks of those that pass among the first i
  abbrev pub listed_upto : ℕ → List (ℕ × Rank)
  listed_upto i = map (ranked order) (filter p (take i (numbered 0 cs)))

  pub listed_next : (i : ℕ) (d : Child) → i < length cs → listed_upto (i + 1) ≡ listed_upto i ++ map (ranked order) (cond (p (i, get_or cs i d)) ((i, get_or cs i d) ∷ []) [])
  listed_next i d within =
      let e : ℕ × Child = (i, get_or cs i d) in
      let here : get_or (numbered 0 cs) i e ≡ e = numbered_at 0 i cs e within ∙ ap (λ m. (m, get_or cs i (get_or cs i d))) (omega arith) ∙ ap (λ c. (i, c)) (get_or_default cs i (get_or cs i d) d within) in
      ap (map (ranked order)) (filter_more p (numbered 0 cs) i e (omega (arith, length-numbered 0 cs, within))
      ∙ ap (λ (c : ℕ × Child). filter p (take i (numbered 0 cs)) ++ cond (p c) (c ∷ []) []) here)
      ∙ map-append (ranked order) (filter p (take i (numbered 0 cs))) (cond (p e) (e ∷ []) [])

  listed_true : (i : ℕ) (d : Child) → i < length cs → p (i, get_or cs i d) ≡ true → listed_upto (i + 1) ≡ listed_upto i ++ ranked order (i, get_or cs i d) ∷ []
  listed_true i d within is = listed_next i d within ∙ ap (λ b. listed_upto i ++ map (ranked order) (cond b ((i, get_or cs i d) ∷ []) [])) is

  listed_false : (i : ℕ) (d : Child) → i < length cs → p (i, get_or cs i d) ≡ false → listed_upto (i + 1) ≡ listed_upto i
  listed_false i d within is = listed_next i d within ∙ ap (λ b. listed_upto i ++ map (ranked order) (cond b ((i, get_or cs i d) ∷ []) [])) is ∙ append-nil (listed_upto i)

  pub listed_all : (i : ℕ) → length cs ≤ i → listed_upto i ≡ map (ranked order) (filter p (numbered 0 cs))
  listed_all i past = ap (λ es. map (ranked order) (filter p es)) (take_all i (numbered 0 cs) (omega (arith, length-numbered 0 cs, past)))

  -- where none of the next k pass
  listed_skip : (i k : ℕ) → i + k ≤ length cs → ((j : ℕ) (d : Child) → i ≤ j → j < i + k → p (j, get_or cs j d) ≡ false) → listed_upto (i + k) ≡ listed_upto i
  listed_skip i zero within none = ap listed_upto (omega arith)
  listed_skip i (suc k) within none =
      ap listed_upto (omega arith)
      ∙ listed_false (i + k) ([], null) (omega arith) (none (i + k) ([], null) (omega arith) (omega arith))
      ∙ listed_skip i k (omega arith) (λ j d low high. none j d low (omega arith))

  pub listed_past : (i j : ℕ) → i ≤ j → j ≤ length cs → ((k : ℕ) (d : Child) → i ≤ k → k < j → p (k, get_or cs k d) ≡ false) → listed_upto j ≡ listed_upto i
  listed_past i j le within none =
      let sum : i + (j - i) ≡ j = omega arith in
      ap listed_upto (sym sum) ∙ listed_skip i (j - i) (omega arith) (λ k d low high. none k d low (omega arith))

module _ (query : Query) (cs : List Child) where
  abbrev from_on : ℕ → ℕ × Child → Bool
  from_on from e = nat_le from e.0 && is_within query e.1

  abbrev between : ℕ → ℕ → List (ℕ × Rank)
  between from to = ranks_between query cs from to

  pub between_none : (from : ℕ) → from ≤ length cs → between from from ≡ []
  between_none from within = listed_past query.order cs (from_on from) 0 from (omega arith) within (λ k d low high. and_left (nat_le from k) (is_within query (get_or cs k d)) (lt-leb from k high))

  between_next : (from i : ℕ) (d : Child) → from ≤ i → i < length cs → between from (i + 1) ≡ between from i ++ map (ranked query.order) (cond (is_within query (get_or cs i d)) ((i, get_or cs i d) ∷ []) [])
  between_next from i d past within =
      listed_next query.order cs (from_on from) i d within
      ∙ ap (λ b. between from i ++ map (ranked query.order) (cond (b && is_within query (get_or cs i d)) ((i, get_or cs i d) ∷ []) [])) (le-leb from i past)

  -- ---- a walk over what is looked at

  module _ (reach : Reach) where
    abbrev looked : ℕ × Child → Bool
    looked e = is_looked_at reach e.0 && is_within query e.1

    abbrev pub looked_upto : ℕ → List (ℕ × Rank)
    looked_upto i = listed_upto query.order cs looked i

    -- k children, each of which is looked at
    looked_between : (i k : ℕ) → i + k ≤ length cs → ((j : ℕ) → i ≤ j → j < i + k → is_looked_at reach j ≡ true) → looked_upto (i + k) ≡ looked_upto i ++ between i (i + k)
    looked_between i zero within all =
        let sum : i + 0 ≡ i = omega arith in
        ap looked_upto sum ∙ sym (append-nil (looked_upto i)) ∙ ap (λ rs. looked_upto i ++ rs) (sym (ap (between i) sum ∙ between_none i (omega arith)))
    looked_between i (suc k) within all =
        let sum : i + suc k ≡ i + k + 1 = omega arith in
        let d : Child = ([], null) in
        let one = map (ranked query.order) (cond (is_within query (get_or cs (i + k) d)) ((i + k, get_or cs (i + k) d) ∷ []) []) in
        ap looked_upto sum
        ∙ listed_next query.order cs looked (i + k) d (omega arith)
        ∙ ap (λ b. looked_upto (i + k) ++ map (ranked query.order) (cond (b && is_within query (get_or cs (i + k) d)) ((i + k, get_or cs (i + k) d) ∷ []) [])) (all (i + k) (omega arith) (omega arith))
        ∙ ap (λ rs. rs ++ one) (looked_between i k (omega arith) (λ j low high. all j low (omega arith)))
        ∙ append_assoc (looked_upto i) (between i (i + k)) (one)
        ∙ ap (λ rs. looked_upto i ++ rs) (sym (between_next i (i + k) d (omega arith) (omega arith)) ∙ ap (between i) (sym sum))

    -- a stretch of the walk
    pub looked_stretch : (from : ℕ) (stretch : Stretch) → IsStretch reach from (length cs) stretch → looked_upto stretch.end ≡ looked_upto from ++ between stretch.from stretch.to
    looked_stretch from stretch is =
        let start = is.start in let order = is.order in let end = is.end in let within = is.within in
        let sum : stretch.from + (stretch.to - stretch.from) ≡ stretch.to = omega arith in
        listed_past query.order cs looked stretch.to stretch.end end within (λ k d low high. and_left (is_looked_at reach k) (is_within query (get_or cs k d)) (is.behind k low high))
        ∙ ap looked_upto (sym sum)
        ∙ looked_between stretch.from (stretch.to - stretch.from) (omega arith) (λ j low high. is.inside j low (omega arith))
        ∙ (λ i. listed_past query.order cs looked from stretch.from start (omega arith) (λ k d low high. and_left (is_looked_at reach k) (is_within query (get_or cs k d)) (is.before k low high)) i ++ between stretch.from (sum i))

-- ---- a turn of the loop

some_same : {X : Type 0} (x y : X) → Some x ≡ Some y → x ≡ y
some_same x y h = cc

module _ (query : Query) (cs : List Child) (from i : ℕ) (before done : List Item) (marks : Marks) (past : from ≤ i) (within : i < length cs) (listed : map item_seen done ≡ map item_seen before ++ ranks_between query cs from i) (same : marks ≡ marks_of query) where
  abbrev child : Child
  child = get_or cs i ([], null)

  at : slice_get cs i ≡ Some child
  at = slice_get-get_or cs i ([], null) within

  seen : (o : Option Item) → option_map item_seen o ≡ option_map (λ c. ranked query.order (i, c)) (slice_get cs i) → option_map item_seen o ≡ Some (ranked query.order (i, child))
  seen o is = is ∙ ap (option_map (λ c. ranked query.order (i, c))) at

  tested : (item : Item) → item_seen item ≡ ranked query.order (i, child) → is_within query child ≡ is_between marks (rank_seen item)
  tested item is = is_within-between query child ∙ sym (λ j. is_between (same j) (is j).1)

  next : (b : Bool) → is_within query child ≡ b → ranks_between query cs from (i + 1) ≡ ranks_between query cs from i ++ map (ranked query.order) (cond b ((i, child) ∷ []) [])
  next b is = between_next query cs from i ([], null) past within ∙ ap (λ c. ranks_between query cs from i ++ map (ranked query.order) (cond c ((i, child) ∷ []) [])) is

  pub turn_kept : (item : Item) → option_map item_seen (Some item) ≡ option_map (λ c. ranked query.order (i, c)) (slice_get cs i) → is_between marks (rank_seen item) ≡ true → map item_seen (done ++ item ∷ []) ≡ map item_seen before ++ ranks_between query cs from (i + 1)
  turn_kept item is holds =
      let one : item_seen item ≡ ranked query.order (i, child) = some_same _ _ (seen (Some item) is) in
      map-append item_seen done (item ∷ [])
      ∙ (λ j. listed j ++ one j ∷ [])
      ∙ append_assoc (map item_seen before) (ranks_between query cs from i) (ranked query.order (i, child) ∷ [])
      ∙ ap (λ rs. map item_seen before ++ rs) (sym (next true (tested item one ∙ holds)))

  pub turn_left : (item : Item) → option_map item_seen (Some item) ≡ option_map (λ c. ranked query.order (i, c)) (slice_get cs i) → is_between marks (rank_seen item) ≡ false → map item_seen done ≡ map item_seen before ++ ranks_between query cs from (i + 1)
  turn_left item is holds =
      let one : item_seen item ≡ ranked query.order (i, child) = some_same _ _ (seen (Some item) is) in
      listed ∙ ap (λ rs. map item_seen before ++ rs) (sym (next false (tested item one ∙ holds) ∙ append-nil (ranks_between query cs from i)))

  pub turn_none : option_map item_seen None ≡ option_map (λ c. ranked query.order (i, c)) (slice_get cs i) → ⊥
  turn_none is = let none = seen None is in cc
