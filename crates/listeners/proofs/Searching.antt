-- Children in the order of their keys, and what a binary search counts among them.
use Rattle.std.proofs.Common.{◌≡◌, ℕ, zero, suc, ◌+◌, ◌<◌, ◌≤◌, Bool, true, false, not, List, [], ◌∷◌, length, get_or, Ordering, Less, Equal, Greater, is_lt, is_gt, true≢false, ⊎_elim, sym, ap, ◌∙◌, refl, subst, arith}
use Rattle.std.specs.Cmp.{first_so, second_so}
use Rattle.std.specs.Option.{option_map_or}
use Rattle.std.specs.FinMap.{is_sorted}
use Rattle.std.specs.FinMap.Entries.{below_all}
use Rattle.std.specs.List.{slice_get}
use Rattle.std.proofs.lemmas.Bool.{cases_lt, false_from_ne_true}
use Rattle.tree_model.specs.Key.{Key, key_cmp}
use Rattle.tree_model.specs.Tree.{Tree, null, child_keys}
use Rattle.tree_model.proofs.Orders.{keys_total, exact_keys}
use Rattle.arena_snapshot.specs.Working.Change.{entries_of}
use Rattle.arena_snapshot.proofs.Ranks.{key_at}
use Rattle.arena_snapshot.proofs.Sums.{entries_sorted}
use Rattle.listeners.specs.Selection.{Child}
use Rattle.listeners.specs.declared.search.Side.{Side}
use Rattle.listeners.specs.declared.search.Side.TheVariants.{Before, UpTo}
use Rattle.listeners.specs.Working.Reach.{is_on, IsCount}

-- ---- keys ascend

pub less_of : (o : Ordering) → is_lt o ≡ true → o ≡ Less
less_of Less h = refl
less_of Equal h = cc
less_of Greater h = cc

below_at : (k : Key) (cs : List Child) → below_all key_cmp k cs ≡ true → (j : ℕ) (d : Child) → j < length cs → key_cmp k (get_or cs j d).0 ≡ Less
below_at k [] h j d within = absurd (omega arith)
below_at k (c ∷ cs) h zero d within = less_of (key_cmp k c.0) (first_so (is_lt (key_cmp k c.0)) (below_all key_cmp k cs) h)
below_at k (c ∷ cs) h (suc j) d within = below_at k cs (second_so (is_lt (key_cmp k c.0)) (below_all key_cmp k cs) h) j d (omega arith)

sorted_at : (cs : List Child) → is_sorted key_cmp cs ≡ true → (i j : ℕ) (d : Child) → i < j → j < length cs → key_cmp (get_or cs i d).0 (get_or cs j d).0 ≡ Less
sorted_at [] h i j d order within = absurd (omega arith)
sorted_at (c ∷ cs) h i zero d order within = absurd (omega arith)
sorted_at (c ∷ cs) h zero (suc j) d order within = below_at c.0 cs (first_so (below_all key_cmp c.0 cs) (is_sorted key_cmp cs) h) j d (omega arith)
sorted_at (c ∷ cs) h (suc i) (suc j) d order within = sorted_at cs (second_so (below_all key_cmp c.0 cs) (is_sorted key_cmp cs) h) i j d (omega arith) (omega arith)

pub ascending : (t : Tree) (i j : ℕ) (d : Child) → i < j → j < length (entries_of t) → key_cmp (get_or (entries_of t) i d).0 (get_or (entries_of t) j d).0 ≡ Less
ascending t = sorted_at (entries_of t) (entries_sorted t)

-- ---- sides

not_greater : (o : Ordering) → o ≡ Less → not (is_gt o) ≡ true
not_greater o is = ap (λ p. not (is_gt p)) is

-- what is before a key on this side is on this side too
on_down : (side : Side) (key k l : Key) → key_cmp k l ≡ Less → is_on side key l ≡ true → is_on side key k ≡ true
on_down Before key k l less on = ap is_lt (keys_total.trans k l key less (less_of (key_cmp l key) on))
on_down UpTo key k l less on = by_order (key_cmp l key) refl on
  where
    by_order : (o : Ordering) → key_cmp l key ≡ o → not (is_gt o) ≡ true → not (is_gt (key_cmp k key)) ≡ true
    by_order Less is h = not_greater (key_cmp k key) (keys_total.trans k l key less is)
    by_order Equal is h = not_greater (key_cmp k key) (ap (key_cmp k) (sym (exact_keys l key is)) ∙ less)
    by_order Greater is h = cc

module _ (t : Tree) (side : Side) (key : Key) where
  abbrev here : ℕ → Child → Key
  here i d = (get_or (entries_of t) i d).0

  -- the key at an index decides for all before it, or from it on
  pub all_upto : (m : ℕ) → m < length (entries_of t) → ((d : Child) → is_on side key (here m d) ≡ true) → (i : ℕ) (d : Child) → i < m + 1 → is_on side key (here i d) ≡ true
  all_upto m within on i d low = ⊎_elim
      (λ less. on_down side key (here i d) (here m d) (ascending t i m d less within) (on d))
      (λ past. subst (λ n. is_on side key (here n d) ≡ true) (let same : m ≡ i = omega arith in same) (on d))
      (cases_lt i m)

  pub none_from : (m : ℕ) → m < length (entries_of t) → ((d : Child) → is_on side key (here m d) ≡ false) → (i : ℕ) (d : Child) → m ≤ i → i < length (entries_of t) → is_on side key (here i d) ≡ false
  none_from m within off i d low inside = ⊎_elim
      (λ less. false_from_ne_true (is_on side key (here i d)) (λ on. true≢false (sym (on_down side key (here m d) (here i d) (ascending t m i d less inside) on) ∙ off d)))
      (λ past. subst (λ n. is_on side key (here n d) ≡ false) (let same : m ≡ i = omega arith in same) (off d))
      (cases_lt m i)

  -- what is read at an index
  pub read_key : (m : ℕ) (b : Bool) → m < length (entries_of t) → b ≡ option_map_or (is_on side key) (slice_get (child_keys t) m) false → (d : Child) → is_on side key (here m d) ≡ b
  read_key m b within is d = sym (is ∙ ap (λ o. option_map_or (is_on side key) o false) (key_at t m d within))

-- a count is no greater than another whose keys are more
pub count_le : (cs : List Child) (p q : Key → Bool) (m n : ℕ) → IsCount cs p m → IsCount cs q n → ((k : Key) → p k ≡ true → q k ≡ true) → m ≤ n
count_le cs p q m n few many more = ⊎_elim
    (λ less.
    let inside = few.within in
    absurd (true≢false (sym (more (get_or cs n ([], null)).0 (few.before n ([], null) less)) ∙ many.behind n ([], null) (omega arith) (omega arith))))
    (λ le. le)
    (cases_lt n m)
