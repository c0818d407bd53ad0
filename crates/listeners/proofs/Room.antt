-- Whether a limit keeps a child, by how many stand ahead of it.
use Rattle.std.proofs.Common.{◌≡◌, not, ℕ, zero, suc, ◌+◌, ◌-◌, ◌≤◌, ◌<◌, nat_lt, nat_le, Bool, true, false, ◌&&◌, cond, List, [], ◌∷◌, ◌++◌, length, length-append, map, get_or, filter, Option, Some, None, option_map, ⊎_elim, sym, ap, ◌∙◌, refl, arith}
use Rattle.std.specs.Option.{option_map_or}
use Rattle.std.specs.Str.{bytes_eq}
use Rattle.std.specs.List.{slice_get}
use Rattle.std.proofs.lemmas.Bool.{cases_lt, lt-ltb, le-ltb, le-leb}
use Rattle.std.proofs.lemmas.List.Elements.{filter-append}
use Rattle.std.proofs.lemmas.Option.{slice_get-get_or}
use Rattle.tree_model.specs.Key.{Key}
use Rattle.tree_model.specs.Tree.{null}
use Rattle.tree_model.proofs.Choices.{or-false}
use Rattle.listeners.specs.Query.{Order, Query}
use Rattle.listeners.specs.Selection.{Child, is_within}
use Rattle.listeners.specs.declared.item.Item.{Item}
use Rattle.listeners.specs.declared.order.Limit.{Limit}
use Rattle.listeners.specs.declared.order.Limit.TheVariants.{First, Last}
use Rattle.listeners.specs.declared.reach.Stretch.{Stretch}
use Rattle.listeners.specs.declared.reach.Reach.{Reach}
use Rattle.listeners.specs.Working.Ahead.{number_in, is_ahead, count_ahead}
use Rattle.listeners.specs.Working.Items.{item_seen, rank_seen}
use Rattle.listeners.specs.Working.Parts.{first_of, last_of}
use Rattle.listeners.specs.Working.Ranks.{Rank, Marks, rank_of, marks_of, is_between, is_among, ranked, count_before, count_behind, is_kept_of}
use Rattle.listeners.specs.Working.Reach.{ranks_between, IsStretch}
use Rattle.listeners.proofs.Listing.{listed_upto, listed_next, is_within-between, looked_stretch, looked_upto}

-- ---- by a limit

kept_by : (limit : Limit) (rs : List (ℕ × Rank)) (r : Rank) → is_kept_of (first_of (Some limit)) (last_of (Some limit)) rs r ≡ nat_lt (count_ahead limit r rs) (number_in limit)
kept_by (First n) rs r = and_true (nat_lt (count_before r rs) n)
  where
    and_true : (b : Bool) → b && true ≡ b
    and_true true = refl
    and_true false = refl
kept_by (Last n) rs r = refl

-- there is room left just where fewer stand ahead
pub kept_with_room : (limit : Limit) (rs : List (ℕ × Rank)) (r : Rank) (room : ℕ) (b : Bool) → room ≡ number_in limit - count_ahead limit r rs → b ≡ nat_lt 0 room → b ≡ is_kept_of (first_of (Some limit)) (last_of (Some limit)) rs r
kept_with_room limit rs r room b is test = test ∙ ⊎_elim
    (λ few. lt-ltb 0 room (omega (arith, is, few)) ∙ sym (lt-ltb (count_ahead limit r rs) (number_in limit) few))
    (λ many. le-ltb 0 room (omega (arith, is, many)) ∙ sym (le-ltb (count_ahead limit r rs) (number_in limit) many))
    (cases_lt (count_ahead limit r rs) (number_in limit))
    ∙ sym (kept_by limit rs r)

-- ---- child by child

count-append : (limit : Limit) (r : Rank) (xs ys : List (ℕ × Rank)) → count_ahead limit r (xs ++ ys) ≡ count_ahead limit r xs + count_ahead limit r ys
count-append limit r xs ys =
    ap length (filter-append (λ (s : ℕ × Rank). is_ahead limit r s.1) xs ys)
    ∙ length-append (filter (λ (s : ℕ × Rank). is_ahead limit r s.1) xs) (filter (λ (s : ℕ × Rank). is_ahead limit r s.1) ys)

module _ (order : Option Order) (cs : List Child) (p : ℕ × Child → Bool) (limit : Limit) (r : Rank) where
  -- how many of those that pass among the first i
  abbrev pub counted : ℕ → ℕ
  counted i = count_ahead limit r (listed_upto order cs p i)

  abbrev one_if : Bool → ℕ
  one_if b = cond b 1 0

  -- what one that passes or not adds
  abbrev added_if : Bool → Bool → ℕ
  added_if a b = cond a (one_if b) 0

  abbrev added : Bool → Child → ℕ
  added b c = added_if b (is_ahead limit r (rank_of order c))

  one : (i : ℕ) (c : Child) (b : Bool) → count_ahead limit r (map (ranked order) (cond b ((i, c) ∷ []) [])) ≡ added b c
  one i c true = length-one (is_ahead limit r (rank_of order c)) (i, rank_of order c)
    where
      length-one : (b : Bool) (s : ℕ × Rank) → length (cond b (s ∷ []) []) ≡ one_if b
      length-one true s = refl
      length-one false s = refl
  one i c false = refl

  counted_next : (i : ℕ) (d : Child) → i < length cs → counted (i + 1) ≡ counted i + added (p (i, get_or cs i d)) (get_or cs i d)
  counted_next i d within =
      ap (count_ahead limit r) (listed_next order cs p i d within)
      ∙ count-append limit r (listed_upto order cs p i) (map (ranked order) (cond (p (i, get_or cs i d)) ((i, get_or cs i d) ∷ []) []))
      ∙ ap (λ n. counted i + n) (one i (get_or cs i d) (p (i, get_or cs i d)))

  -- what is counted grows
  grown : (i k : ℕ) → i + k ≤ length cs → counted i ≤ counted (i + k)
  grown i zero within = let same : counted (i + 0) ≡ counted i = ap counted (let e : i + 0 ≡ i = omega arith in e) in omega (arith, same)
  grown i (suc k) within =
      let before = grown i k (omega arith) in
      let d : Child = ([], null) in
      let next : counted (i + suc k) ≡ counted (i + k) + added (p (i + k, get_or cs (i + k) d)) (get_or cs (i + k) d) = ap counted (let e : i + suc k ≡ i + k + 1 = omega arith in e) ∙ counted_next (i + k) d (omega arith) in
      omega (arith, before, next)

  pub used_up : (room i to : ℕ) → i ≤ to → to ≤ length cs → 0 ≡ room - counted i → 0 ≡ room - counted to
  used_up room i to le within none =
      let sum : i + (to - i) ≡ to = omega arith in
      let more = grown i (to - i) (omega arith) in
      let same = ap counted sum in
      omega (arith, more, same, none)

  -- ---- a turn of the loop: b is whether the child passes and stands ahead

  adds : (a b : Bool) → added_if a b ≡ one_if (a && b)
  adds true b = refl
  adds false b = refl

  next : (i : ℕ) (b : Bool) → i < length cs → b ≡ p (i, get_or cs i ([], null)) && is_ahead limit r (rank_of order (get_or cs i ([], null))) → counted (i + 1) ≡ counted i + one_if b
  next i b within is = counted_next i ([], null) within ∙ ap (λ n. counted i + n) (adds (p (i, get_or cs i ([], null))) (is_ahead limit r (rank_of order (get_or cs i ([], null)))) ∙ ap one_if (sym is))

  pub taken : (room left i : ℕ) → i < length cs → true ≡ p (i, get_or cs i ([], null)) && is_ahead limit r (rank_of order (get_or cs i ([], null))) → left ≡ room - counted i → left - 1 ≡ room - counted (i + 1)
  taken room left i within is so_far = let n = next i true within is in omega (arith, n, so_far)

  pub passed_by : (room left i : ℕ) → i < length cs → false ≡ p (i, get_or cs i ([], null)) && is_ahead limit r (rank_of order (get_or cs i ([], null))) → left ≡ room - counted i → left ≡ room - counted (i + 1)
  passed_by room left i within is so_far = let n = next i false within is in omega (arith, n, so_far)

-- ---- the test of one child, as the code makes it

module _ (query : Query) (cs : List Child) (limit : Limit) (r : Rank) (i : ℕ) (marks : Marks) (within : i < length cs) (same : marks ≡ marks_of query) where
  abbrev child : Child
  child = get_or cs i ([], null)

  at : slice_get cs i ≡ Some child
  at = slice_get-get_or cs i ([], null) within

  pub tested : (found : Option Item) (b : Bool) → option_map item_seen found ≡ option_map (λ c. ranked query.order (i, c)) (slice_get cs i)
      → b ≡ option_map_or (λ one. is_between marks (rank_seen one) && is_ahead limit r (rank_seen one)) found false
      → b ≡ is_within query child && is_ahead limit r (rank_of query.order child)
  tested None b is test = let none = is ∙ ap (option_map (λ c. ranked query.order (i, c))) at in absurd cc
  tested (Some item) b is test =
      let seen : Some (item_seen item) ≡ Some (ranked query.order (i, child)) = is ∙ ap (option_map (λ c. ranked query.order (i, c))) at in
      let rank : item_seen item ≡ ranked query.order (i, child) = cc in
      test
      ∙ (λ j. is_between (same j) (rank j).1 && is_ahead limit r (rank j).1)
      ∙ ap (λ w. w && is_ahead limit r (rank_of query.order child)) (sym (is_within-between query child))

  -- from an index on that is not behind it
  pub tested_from : (from : ℕ) (b : Bool) → from ≤ i → b ≡ is_within query child && is_ahead limit r (rank_of query.order child) → b ≡ (nat_le from i && is_within query child) && is_ahead limit r (rank_of query.order child)
  tested_from from b past is = is ∙ ap (λ c. (c && is_within query child) && is_ahead limit r (rank_of query.order child)) (sym (le-leb from i past))

-- ---- stretch by stretch

pub stretch_counted : (query : Query) (cs : List Child) (limit : Limit) (r : Rank) (reach : Reach) (from : ℕ) (stretch : Stretch) (room left : ℕ) → IsStretch reach from (length cs) stretch
    → room ≡ number_in limit - count_ahead limit r (looked_upto query cs reach from)
    → left ≡ room - count_ahead limit r (ranks_between query cs stretch.from stretch.to)
    → left ≡ number_in limit - count_ahead limit r (looked_upto query cs reach stretch.end)
stretch_counted query cs limit r reach from stretch room left is so_far here =
    let sum = ap (count_ahead limit r) (looked_stretch query cs reach from stretch is) ∙ count-append limit r (looked_upto query cs reach from) (ranks_between query cs stretch.from stretch.to) in
    omega (arith, sum, so_far, here)

-- ---- a child that is not among the others

pub tested_other : (query : Query) (cs : List Child) (limit : Limit) (r : Rank) (i : ℕ) (marks : Marks) (k : Key) → i < length cs → marks ≡ marks_of query → (found : Option Item) (b : Bool)
    → option_map item_seen found ≡ option_map (λ c. ranked query.order (i, c)) (slice_get cs i)
    → b ≡ option_map_or (λ one. not (bytes_eq one.key.text.now k) && (is_between marks (rank_seen one) && is_ahead limit r (rank_seen one))) found false
    → b ≡ (not (is_among (get_or cs i ([], null)).0 (k ∷ [])) && is_within query (get_or cs i ([], null))) && is_ahead limit r (rank_of query.order (get_or cs i ([], null)))
tested_other query cs limit r i marks k within same None b is test =
    let none = is ∙ ap (option_map (λ c. ranked query.order (i, c))) (slice_get-get_or cs i ([], null) within) in
    absurd cc
tested_other query cs limit r i marks k within same (Some item) b is test =
    let c = get_or cs i ([], null) in
    let seen : Some (item_seen item) ≡ Some (ranked query.order (i, c)) = is ∙ ap (option_map (λ c. ranked query.order (i, c))) (slice_get-get_or cs i ([], null) within) in
    let rank : item_seen item ≡ ranked query.order (i, c) = cc in
    let key : item.key.text.now ≡ c.0 = ap (λ (e : ℕ × Rank). e.1.1.1) rank in
    let rest = tested query cs limit r i marks within same (Some item) (is_between marks (rank_seen item) && is_ahead limit r (rank_seen item)) is refl in
    test
    ∙ (λ j. not (bytes_eq (key j) k) && rest j)
    ∙ ap (λ e. not e && (is_within query c && is_ahead limit r (rank_of query.order c))) (sym (or-false (bytes_eq c.0 k)))
    ∙ sym (regroup (not (is_among c.0 (k ∷ []))) (is_within query c) (is_ahead limit r (rank_of query.order c)))
  where
    regroup : (a b c : Bool) → (a && b) && c ≡ a && (b && c)
    regroup true b c = refl
    regroup false b c = refl
