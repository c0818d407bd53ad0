-- How many children stand before a key, and which key stands at an index.
use Rattle.std.proofs.Common.{◌≡◌, ◌≢◌, ℕ, zero, suc, ◌+◌, ◌-◌, ◌≤◌, ◌<◌, ◌⊎◌, inl, inr, Bool, true, false, cond, not, ◌&&◌, List, [], ◌∷◌, map, length, get_or, Some, None, sym, ap, ◌∙◌, refl, arith}
use Rattle.std.specs.List.{slice_get, sum_by, count_by, AllByRecursion}
use Rattle.std.specs.Ordering.{is_lt, eq_by_cmp}
use Rattle.std.specs.declared.cmp.Ordering.{Ordering}
use Rattle.std.specs.declared.cmp.Ordering.TheVariants.{Less, Equal, Greater}
use Rattle.std.specs.Cmp.{first_so, second_so, tied_itself}
use Rattle.std.specs.FinMap.{find, is_sorted}
use Rattle.std.specs.FinMap.Entries.{below_all}
use Rattle.std.proofs.lemmas.Bool.{false≢true}
use Rattle.std.proofs.lemmas.List.Sums.{sum_by-cons}
use Rattle.std.proofs.lemmas.List.{length-map}
use Rattle.tree_model.specs.Key.{Key, key_cmp}
use Rattle.tree_model.specs.PathMap.{sub}
use Rattle.tree_model.specs.Tree.{Tree, null, non_null, child_keys}
use Rattle.tree_model.proofs.Orders.{keys_total, tied_key}
use Rattle.tree_model.proofs.Existence.{non_null-null, non_null-some, depth-null}
use Rattle.json_tree.proofs.Children.{no_children}
use Rattle.arena_snapshot.specs.Working.Change.{Change, changed, AreChanges, entries_of, total, one_if, is_before, below, before}
use Rattle.arena_snapshot.specs.Working.Changing.{child_kept}
use Rattle.arena_snapshot.proofs.Sums.{number, entries_sorted, find-entries, quiet}

abbrev pub Entries : Type 0
Entries = List (Key × Tree)

abbrev pub count_before : Key → Entries → ℕ
count_before b es = sum_by (number (below b)) es

pub less_of : (o : Ordering) → is_lt o ≡ true → o ≡ Less
less_of Less h = refl
less_of Equal h = absurd (false≢true h)
less_of Greater h = absurd (false≢true h)

pub before_trans : (a b c : Key) → is_before a b ≡ true → is_before b c ≡ true → is_before a c ≡ true
before_trans a b c h g = ap is_lt (keys_total.trans a b c (less_of _ h) (less_of _ g))

pub not_before_itself : (k : Key) → is_before k k ≡ false
not_before_itself k = ap is_lt (tied_itself keys_total k)

-- ---- keys in order

not_so : (b : Bool) → (b ≡ true → ⊥) → b ≡ false
not_so true h = absurd (h refl)
not_so false h = refl

none_before : (b : Key) (e : Key × Tree) (es : Entries) → is_sorted key_cmp (e ∷ es) ≡ true → is_before e.0 b ≡ false → count_before b es ≡ 0
none_before b e [] s h = refl
none_before b e (f ∷ es) s h =
    let up : is_before e.0 f.0 ≡ true = first_so _ _ (first_so (below_all key_cmp e.0 (f ∷ es)) _ s) in
    let high : is_before f.0 b ≡ false = not_so _ (λ low. false≢true (sym h ∙ before_trans e.0 f.0 b up low)) in
    let here : one_if (is_before f.0 b) ≡ 0 = ap one_if high in
    omega (arith, sum_by-cons (number (below b)) f es, here, none_before b f es (second_so _ _ s) high)

module _ (b : Key) (e : Key × Tree) (es : Entries) where
  counts_first : is_before e.0 b ≡ true → count_before b (e ∷ es) ≡ 1 + count_before b es
  counts_first h = let here : one_if (is_before e.0 b) ≡ 1 = ap one_if h in omega (arith, sum_by-cons (number (below b)) e es, here)

  counts_none : is_sorted key_cmp (e ∷ es) ≡ true → is_before e.0 b ≡ false → count_before b (e ∷ es) ≡ 0
  counts_none s h = let here : one_if (is_before e.0 b) ≡ 0 = ap one_if h in omega (arith, sum_by-cons (number (below b)) e es, here, none_before b e es s h)

either : (b : Bool) → (b ≡ true) ⊎ (b ≡ false)
either true = inl refl
either false = inr refl

-- the keys before b are those at the first indices
pub rank_low : (b : Key) (es : Entries) (i : ℕ) (d : Key × Tree) → is_sorted key_cmp es ≡ true → i < length es → is_before (get_or es i d).0 b ≡ true → i < count_before b es
rank_low b [] i d s low h = absurd (omega arith)
rank_low b (e ∷ es) zero d s low h = omega (arith, counts_first b e es h)
rank_low b (e ∷ es) (suc i) d s low h =
    let rest = rank_low b es i d (second_so _ _ s) (omega arith) h in
    elim (either (is_before e.0 b)) [
      | inl first ↦ omega (arith, counts_first b e es first)
      | inr none ↦ absurd (omega (arith, none_before b e es s none))
    ]

pub rank_high : (b : Key) (es : Entries) (i : ℕ) (d : Key × Tree) → is_sorted key_cmp es ≡ true → i < length es → is_before (get_or es i d).0 b ≡ false → count_before b es ≤ i
rank_high b [] i d s low h = absurd (omega arith)
rank_high b (e ∷ es) zero d s low h = omega (arith, counts_none b e es s h)
rank_high b (e ∷ es) (suc i) d s low h =
    let rest = rank_high b es i d (second_so _ _ s) (omega arith) h in
    elim (either (is_before e.0 b)) [
      | inl first ↦ omega (arith, counts_first b e es first)
      | inr none ↦ omega (arith, counts_none b e es s none)
    ]

pub above_first : (e : Key × Tree) (es : Entries) (i : ℕ) (d : Key × Tree) → below_all key_cmp e.0 es ≡ true → i < length es → is_before e.0 (get_or es i d).0 ≡ true
above_first e [] i d h low = absurd (omega arith)
above_first e (f ∷ es) zero d h low = first_so _ _ h
above_first e (f ∷ es) (suc i) d h low = above_first e es i d (second_so _ _ h) (omega arith)

-- i keys stand before the one at i
pub before_at : (es : Entries) (i : ℕ) (d : Key × Tree) → is_sorted key_cmp es ≡ true → i < length es → count_before (get_or es i d).0 es ≡ i
before_at [] i d s low = absurd (omega arith)
before_at (e ∷ es) zero d s low = counts_none e.0 e es s (not_before_itself e.0)
before_at (e ∷ es) (suc i) d s low = omega (arith, counts_first (get_or es i d).0 e es (above_first e es i d (first_so _ _ s) (omega arith)), before_at es i d (second_so _ _ s) (omega arith))

-- where a key is found
record Found (k : Key) (es : Entries) : Type 0 where
  index : ℕ
  low : index < length es
  is : (d : Key × Tree) → (get_or es index d).0 ≡ k

found : (k : Key) (u : Tree) (es : Entries) → find key_cmp k es ≡ Some u → Found k es
found k u [] h = cc
found k u (e ∷ es) h =
    elim (eq_by_cmp key_cmp k e.0) as (λ b. eq_by_cmp key_cmp k e.0 ≡ b → cond b (Some e.1) (find key_cmp k es) ≡ Some u → Found k (e ∷ es)) [
      | true ↦ λ same _. record { index = 0; low = omega arith; is = λ d. sym (tied_key k e.0 same) }
      | false ↦ λ _ g. let rest = found k u es g in record { index = suc rest.index; low = (let low = rest.low in omega arith); is = rest.is }
    ] refl h

-- a key that is found stands behind those before it
pub at_index : (k : Key) (u : Tree) (es : Entries) (d : Key × Tree) → is_sorted key_cmp es ≡ true → find key_cmp k es ≡ Some u → (count_before k es < length es) × ((get_or es (count_before k es) d).0 ≡ k)
at_index k u es d s h =
    let at = found k u es h in
    let is : count_before k es ≡ at.index = ap (λ l. count_before l es) (sym (at.is d)) ∙ before_at es at.index d s at.low in
    let low = at.low in
    (omega arith, ap (λ i. (get_or es i d).0) is ∙ at.is d)

-- ---- of a tree

slice_get-keys : (es : Entries) (i : ℕ) (d : Key × Tree) → i < length es → slice_get (map (λ (e : Key × Tree). e.0) es) i ≡ Some (get_or es i d).0
slice_get-keys [] i d low = absurd (omega arith)
slice_get-keys (e ∷ es) zero d low = refl
slice_get-keys (e ∷ es) (suc i) d low = slice_get-keys es i d (omega arith)

pub key_at : (t : Tree) (i : ℕ) (d : Key × Tree) → i < length (entries_of t) → slice_get (child_keys t) i ≡ Some (get_or (entries_of t) i d).0
unfolding child_keys
key_at t i d low = slice_get-keys (entries_of t) i d low

pub width-entries : (t : Tree) → length (child_keys t) ≡ length (entries_of t)
unfolding child_keys
width-entries t = length-map (entries_of t) (λ e. e.0)

-- a key of a child stands behind those before it
pub child_index : (t : Tree) (k : Key) → sub t (k ∷ []) ≢ null → slice_get (child_keys t) (before k t) ≡ Some k
child_index t k some =
    let d : Key × Tree = (k, null) in
    let at = at_index k (sub t (k ∷ [])) (entries_of t) d (entries_sorted t) (find-entries t k ∙ non_null-some (sub t (k ∷ [])) some) in
    key_at t (before k t) d at.0 ∙ ap Some at.1

-- ---- indices among stored keys, and among those of a tree of which a few children are other ones

abbrev pub upto : (Key → Bool) → Key → Tree → ℕ
upto upper l u = one_if (upper l)

abbrev rest : Key → (Key → Bool) → Key → Tree → ℕ
rest x upper l u = one_if (not (is_before l x) && upper l)

module _ (x : Key) (upper : Key → Bool) (over : (l : Key) → is_before l x ≡ true → upper l ≡ true) where
  each : (l : Key) (u : Tree) → upto upper l u ≡ below x l u + rest x upper l u
  each l u = elim (is_before l x) as (λ b. (b ≡ true → upper l ≡ true) → one_if (upper l) ≡ one_if b + one_if (not b && upper l)) [
    | true ↦ λ so. ap one_if (so refl)
    | false ↦ λ _. omega arith
  ] (over l)

  sums : (es : Entries) → sum_by (number (upto upper)) es ≡ count_before x es + sum_by (number (rest x upper)) es
  sums [] = omega arith
  sums (e ∷ es) = omega (arith, sum_by-cons (number (upto upper)) e es, sum_by-cons (number (below x)) e es, sum_by-cons (number (rest x upper)) e es, each e.0 e.1, sums es)

  module _ (t : Tree) (cs : List Change) (h : AreChanges t cs) (apart : AllByRecursion (λ (c : Change). (is_before c.0 x ≡ true) ⊎ (upper c.0 ≡ false)) cs) where
    quiet_there : (ds : List Change) → AllByRecursion (λ (c : Change). (is_before c.0 x ≡ true) ⊎ (upper c.0 ≡ false)) ds → AllByRecursion (λ (c : Change). (u : Tree) → rest x upper c.0 u ≡ 0) ds
    quiet_there [] a = tt
    quiet_there (d ∷ ds) a = (
      λ u. elim a.0 [
        | inl low ↦ ap (λ b. one_if (not b && upper d.0)) low
        | inr high ↦ ap (λ b. one_if (not (is_before d.0 x) && b)) high ∙ nothing (not (is_before d.0 x))
      ],
      quiet_there ds a.1,
    )
      where
        nothing : (b : Bool) → one_if (b && false) ≡ 0
        nothing true = refl
        nothing false = refl

    -- as many stand between x and the upper end as before
    pub between : total (upto upper) (changed t cs) + before x t ≡ total (upto upper) t + before x (changed t cs)
    between = omega (arith, sums (entries_of (changed t cs)), sums (entries_of t), quiet (rest x upper) t cs h.ascending h.each (quiet_there cs apart))

    not_among : upper x ≡ true → (ds : List Change) → AllByRecursion (λ (c : Change). (is_before c.0 x ≡ true) ⊎ (upper c.0 ≡ false)) ds → find key_cmp x ds ≡ None
    not_among under [] a = refl
    not_among under (d ∷ ds) a =
        elim (eq_by_cmp key_cmp x d.0) as (λ b. eq_by_cmp key_cmp x d.0 ≡ b → cond b (Some d.1) (find key_cmp x ds) ≡ None) [
          | true ↦ λ same.
              let is : x ≡ d.0 = tied_key x d.0 same in
              elim a.0 [
                | inl low ↦ absurd (false≢true (sym (not_before_itself x) ∙ ap (λ l. is_before l x) is ∙ low))
                | inr high ↦ absurd (false≢true (sym high ∙ ap upper (sym is) ∙ under))
              ]
          | false ↦ λ _. not_among under ds a.1
        ] refl

    pub child_is_stored : upper x ≡ true → sub (changed t cs) (x ∷ []) ≢ null → sub t (x ∷ []) ≢ null
    child_is_stored under some none =
        let same : non_null (sub (changed t cs) (x ∷ [])) ≡ non_null (sub t (x ∷ [])) = child_kept t cs x h (not_among under cs apart) in
        let full = non_null-some (sub (changed t cs) (x ∷ [])) some in
        let empty = ap non_null none in
        absurd (some_is_none (sym full ∙ same ∙ empty))
      where
        some_is_none : Some (sub (changed t cs) (x ∷ [])) ≡ non_null null → ⊥
        some_is_none e = let none = e ∙ non_null-null in cc

-- the stored index of a key that stands at i
pub stored_index : (t : Tree) (cs : List Change) (x : Key) (upper : Key → Bool) (i : ℕ) → AreChanges t cs → ((l : Key) → is_before l x ≡ true → upper l ≡ true)
    → AllByRecursion (λ (c : Change). (is_before c.0 x ≡ true) ⊎ (upper c.0 ≡ false)) cs → upper x ≡ true → sub (changed t cs) (x ∷ []) ≢ null → before x (changed t cs) ≡ i → i ≤ total (upto upper) (changed t cs)
    → (total (upto upper) (changed t cs) - i ≤ total (upto upper) t) × (slice_get (child_keys t) (total (upto upper) t - (total (upto upper) (changed t cs) - i)) ≡ Some x)
stored_index t cs x upper i h over apart under some at low =
    let same = between x upper over t cs h apart in
    let index : total (upto upper) t - (total (upto upper) (changed t cs) - i) ≡ before x t = omega arith in
    (omega arith, ap (slice_get (child_keys t)) index ∙ child_index t x (child_is_stored x upper over t cs h apart under some))

-- ---- stored keys, as the code reads them

pub child_keys-null : child_keys null ≡ []
unfolding child_keys
child_keys-null = ap (map (λ (e : Key × Tree). e.0)) (no_children null (omega (arith, depth-null)))

-- keys before a name are children before it
pub keys_before : (k : Key) (t : Tree) → count_by (λ l. is_lt (key_cmp l k)) (child_keys t) ≡ before k t
unfolding child_keys
keys_before k t = go (entries_of t)
  where
    go : (es : Entries) → count_by (λ l. is_before l k) (map (λ (e : Key × Tree). e.0) es) ≡ count_before k es
    go [] = refl
    go (e ∷ es) = omega (arith, sum_by-cons (λ l. one_if (is_before l k)) e.0 (map (λ (f : Key × Tree). f.0) es), sum_by-cons (number (below k)) e es, go es)

pub before_within : (k : Key) (t : Tree) → before k t ≤ length (child_keys t)
before_within k t = omega (arith, all (entries_of t), width-entries t)
  where
    at_most_one : (b : Bool) → one_if b ≤ 1
    at_most_one true = omega arith
    at_most_one false = omega arith

    all : (es : Entries) → count_before k es ≤ length es
    all [] = omega arith
    all (e ∷ es) = omega (arith, sum_by-cons (number (below k)) e es, at_most_one (is_before e.0 k), all es)
