-- Which patches stand before the child at an index, and where that child stands among the stored ones.
use Rattle.std.proofs.Common.{◌≡◌, ◌≢◌, ℕ, zero, suc, ◌-◌, ◌≤◌, ◌<◌, ◌⊎◌, inl, inr, true, false, not, ◌&&◌, ◌||◌, nat_lt, nat_eq, List, [], ◌∷◌, map, length, get_or, Some, None, Option, is_some, sym, ap, ◌∙◌, subst, refl, arith}
use Rattle.std.specs.List.{slice_get, AllByRecursion}
use Rattle.std.specs.List.Sorted.{IsPartitionedBy}
use Rattle.std.specs.Ordering.{is_lt, ordering_reverse}
use Rattle.std.specs.declared.cmp.Ordering.TheVariants.{Less, Equal, Greater}
use Rattle.std.specs.Cmp.{first_so, second_so, tied_itself}
use Rattle.std.specs.FinMap.{is_sorted}
use Rattle.std.specs.FinMap.Entries.{below_all}
use Rattle.std.proofs.lemmas.Bool.{false≢true, cases_lt}
use Rattle.std.proofs.lemmas.Bool.Decides.{nat_tests}
use Rattle.std.proofs.lemmas.List.{length-map, get_or_default}
use Rattle.std.proofs.Math.ListN.{get_or-map}
use Rattle.std.proofs.lemmas.Option.{slice_get_past}
use Rattle.tree_model.specs.Key.{Key, key_cmp}
use Rattle.tree_model.specs.PathMap.{sub}
use Rattle.tree_model.specs.Tree.{Tree, null, non_null, child_keys}
use Rattle.tree_model.proofs.Orders.{keys_total, exact_keys}
use Rattle.json_tree.proofs.Building.{tree_from_some, null_from_none}
use Rattle.json_tree.proofs.Lists.{all_by_recursion, all_from_recursion}
use Rattle.json_tree.proofs.Places.{find_at}
use Rattle.arena_snapshot.specs.Working.Change.{Change, changed, entries_of, total, one, is_before, before}
use Rattle.arena_snapshot.specs.Working.Changing.{child_found}
use Rattle.arena_snapshot.specs.Working.Patches.{change_of, is_behind, IsPlaced, ArePatches}
use Rattle.arena_snapshot.specs.declared.view.Patch.{Patch}
use Rattle.arena_snapshot.proofs.Sums.{entries_sorted, find-entries, width-total}
use Rattle.arena_snapshot.proofs.Entries.{entry_is}
use Rattle.arena_snapshot.proofs.Ranks.{rank_low, rank_high, before_at, at_index, key_at, width-entries, before_trans, not_before_itself, stored_index}

from_behind : (a i : ℕ) (o : Option Tree) → (nat_lt a i || (nat_eq a i && not (is_some o))) ≡ true → (a < i) ⊎ ((a ≡ i) × (o ≡ None))
from_behind a i None h = grind (arith, nat_tests)
from_behind a i (Some u) h = grind (arith, nat_tests)

to_behind : (a i : ℕ) (o : Option Tree) → (a < i) ⊎ ((a ≡ i) × (o ≡ None)) → (nat_lt a i || (nat_eq a i && not (is_some o))) ≡ true
to_behind a i None h = grind (arith, nat_tests)
to_behind a i (Some u) (inl h) = grind (arith, nat_tests)
to_behind a i (Some u) (inr h) = let none = h.1 in cc

not_behind : (a i : ℕ) (o : Option Tree) → (nat_lt a i || (nat_eq a i && not (is_some o))) ≡ false → (i ≤ a) × (a ≡ i → o ≢ None)
not_behind a i None h = grind (arith, nat_tests)
not_behind a i (Some u) h = (grind (arith, nat_tests), λ _ e. cc)

-- a child that a patch puts at an index is not behind it
ahead_of : (i : ℕ) (p : Patch) (u : Tree) → p.before ≡ i → p.child ≡ Some u → is_behind i p ≡ false
ahead_of i p u same is = ap (λ (o : Option Tree). nat_lt p.before i || (nat_eq p.before i && not (is_some o))) is ∙ at_itself p.before i same
  where
    at_itself : (a i : ℕ) → a ≡ i → (nat_lt a i || (nat_eq a i && false)) ≡ false
    at_itself a i e = grind (arith, nat_tests)

equal_or_less : (a b : ℕ) → a ≤ b → (a ≡ b) ⊎ (a < b)
equal_or_less a b g = grind arith

above_first : (k : Key) (ps : List Patch) (n : ℕ) (d : Patch) → below_all key_cmp k (map change_of ps) ≡ true → n < length ps → is_before k (get_or ps n d).key.now ≡ true
above_first k [] n d h low = absurd (omega arith)
above_first k (p ∷ ps) zero d h low = first_so _ _ h
above_first k (p ∷ ps) (suc n) d h low = above_first k ps n d (second_so _ _ h) (omega arith)

ascending : (ps : List Patch) (m n : ℕ) (d : Patch) → is_sorted key_cmp (map change_of ps) ≡ true → m < n → n < length ps → is_before (get_or ps m d).key.now (get_or ps n d).key.now ≡ true
ascending [] m n d s less low = absurd (omega arith)
ascending (p ∷ ps) m zero d s less low = absurd (omega arith)
ascending (p ∷ ps) zero (suc n) d s less low = above_first p.key.now ps n d (first_so _ _ s) (omega arith)
ascending (p ∷ ps) (suc m) (suc n) d s less low = ascending ps m n d (second_so _ _ s) (omega arith) (omega arith)

not_after : (k l : Key) → is_before k l ≡ true → is_before l k ≡ false
not_after k l h =
    elim (is_before l k) as (λ b. is_before l k ≡ b → b ≡ false) [
      | true ↦ λ g. absurd (false≢true (sym (not_before_itself k) ∙ before_trans k l k h g))
      | false ↦ λ _. refl
    ] refl

each_change : (P : Change → Type 0) (ps : List Patch) → AllByRecursion (λ (p : Patch). P (change_of p)) ps → AllByRecursion P (map change_of ps)
each_change P [] h = tt
each_change P (p ∷ ps) h = (h.0, each_change P ps h.1)

module _ (t : Tree) (ps : List Patch) (wide : ℕ) (h : ArePatches t ps wide) where
  abbrev new : Tree
  new = changed t (map change_of ps)

  placed : (m : ℕ) (d : Patch) → m < length ps → IsPlaced t (changed t (map change_of ps)) (get_or ps m d)
  placed m d low = all_from_recursion (IsPlaced t (changed t (map change_of ps))) ps h.indices m d low

  child_is : (m : ℕ) (d : Patch) → m < length ps → non_null (sub (changed t (map change_of ps)) ((get_or ps m d).key.now ∷ [])) ≡ (get_or ps m d).child
  child_is m d low =
      let k = (get_or ps m d).key.now in
      let at = get_or-map change_of ps m d in
      child_found t (map change_of ps) k (get_or ps m d).child h.changes (
      find_at k (map change_of ps) m (change_of d) h.changes.ascending (let long = length-map ps change_of in omega arith) (ap (λ (c : Change). key_cmp c.0 k) at ∙ tied_itself keys_total k)
      ∙ ap (λ (c : Change). Some c.1) at)

  module _ (i : ℕ) (low : i < wide) where
    within : i < length (entries_of (changed t (map change_of ps)))
    within = let wide_is = h.width in omega (arith, width-entries (changed t (map change_of ps)))

    -- the key of the child at the index
    abbrev key : Key
    key = (get_or (entries_of (changed t (map change_of ps))) i ([], null)).0

    pub key_is : slice_get (child_keys (changed t (map change_of ps))) i ≡ Some key
    key_is = key_at (changed t (map change_of ps)) i ([], null) within

    key_index : before key (changed t (map change_of ps)) ≡ i
    key_index = before_at (entries_of (changed t (map change_of ps))) i ([], null) (entries_sorted (changed t (map change_of ps))) within

    key_some : sub (changed t (map change_of ps)) (key ∷ []) ≢ null
    key_some =
        let found = find_at key (entries_of (changed t (map change_of ps))) i ([], null) (entries_sorted (changed t (map change_of ps))) within (tied_itself keys_total key) in
        (tree_from_some _ _ (sym found ∙ find-entries (changed t (map change_of ps)) key)).1

    -- the index is at most as far as a key that is not before it
    at_most : (k : Key) → is_before key k ≡ false → before k (changed t (map change_of ps)) ≤ i
    at_most k g = rank_high k (entries_of (changed t (map change_of ps))) i ([], null) (entries_sorted (changed t (map change_of ps))) within g

    behind_before : (m : ℕ) (d : Patch) → m < length ps → is_behind i (get_or ps m d) ≡ true → is_before (get_or ps m d).key.now key ≡ true
    behind_before m d inside behind =
        let p = get_or ps m d in
        let here = (placed m d inside).here in
        elim (key_cmp p.key.now key) as (λ o. key_cmp p.key.now key ≡ o → is_lt o ≡ true) [
          | Less ↦ λ _. refl
          | Equal ↦ λ e.
              let same : p.key.now ≡ key = exact_keys p.key.now key e in
              let at : before p.key.now (changed t (map change_of ps)) ≡ i = ap (λ l. before l (changed t (map change_of ps))) same ∙ key_index in
              elim (from_behind p.before i p.child behind) [
                | inl less ↦ absurd (omega arith)
                | inr none ↦ absurd (key_some (null_if_none (sub (changed t (map change_of ps)) (key ∷ [])) (ap (λ l. non_null (sub (changed t (map change_of ps)) (l ∷ []))) (sym same) ∙ child_is m d inside ∙ none.1)))
              ]
          | Greater ↦ λ e.
              let after : is_before key p.key.now ≡ true = ap is_lt (keys_total.antisymm key p.key.now ∙ ap ordering_reverse e) in
              let far = rank_low p.key.now (entries_of (changed t (map change_of ps))) i ([], null) (entries_sorted (changed t (map change_of ps))) within after in
              elim (from_behind p.before i p.child behind) [ inl less ↦ absurd (omega arith) | inr none ↦ absurd (let equal = none.0 in omega arith) ]
        ] refl
      where
        null_if_none : (u : Tree) → non_null u ≡ None → u ≡ null
        null_if_none u e = null_from_none u (sym e)

    before_behind : (m : ℕ) (d : Patch) → m < length ps → is_before (get_or ps m d).key.now key ≡ true → is_behind i (get_or ps m d) ≡ true
    before_behind m d inside low_key =
        let p = get_or ps m d in
        let here = (placed m d inside).here in
        elim p.child as (λ o. p.child ≡ o → (nat_lt p.before i || (nat_eq p.before i && not (is_some o))) ≡ true) [
          | None ↦ λ _.
              let le = at_most p.key.now (not_after p.key.now key low_key) in
              elim (equal_or_less p.before i (omega arith)) [ inl same ↦ to_behind p.before i None (inr (same, refl)) | inr less ↦ to_behind p.before i None (inl less) ]
          | (Some u) ↦ λ is.
              let e : Key × Tree = ([], null) in
              let at = at_index p.key.now u (entries_of (changed t (map change_of ps))) e (entries_sorted (changed t (map change_of ps))) (find-entries (changed t (map change_of ps)) p.key.now ∙ child_is m d inside ∙ is) in
              let less = rank_low key (entries_of (changed t (map change_of ps))) (before p.key.now (changed t (map change_of ps))) e (entries_sorted (changed t (map change_of ps))) at.0 (ap (λ l. is_before l key) at.1 ∙ low_key) in
              to_behind p.before i (Some u) (inl (let index = key_index in omega arith))
        ] refl

    pub partitioned : IsPartitionedBy (is_behind i) ps
    partitioned m n d le inside behind =
        elim (equal_or_less m n le) [
          | inl same ↦ ap (λ j. is_behind i (get_or ps j d)) same ∙ behind
          | inr less ↦ before_behind m d (omega arith) (before_trans (get_or ps m d).key.now (get_or ps n d).key.now key (ascending ps m n d h.changes.ascending less inside) (behind_before n d inside behind))
        ]

    -- a patch that stands at the index
    pub at_patch : (m : ℕ) (d : Patch) → m < length ps → is_behind i (get_or ps m d) ≡ false → (get_or ps m d).before ≡ i → Some (get_or ps m d).key.now ≡ slice_get (child_keys (changed t (map change_of ps))) i
    at_patch m d inside ahead same =
        let p = get_or ps m d in
        let here = (placed m d inside).here in
        elim p.child as (λ o. p.child ≡ o → Some p.key.now ≡ slice_get (child_keys (changed t (map change_of ps))) i) [
          | None ↦ λ none. absurd ((not_behind p.before i p.child ahead).1 same none)
          | (Some u) ↦ λ is.
              let at = at_index p.key.now u (entries_of (changed t (map change_of ps))) ([], null) (entries_sorted (changed t (map change_of ps))) (find-entries (changed t (map change_of ps)) p.key.now ∙ child_is m d inside ∙ is) in
              sym (key_is ∙ ap Some (ap (λ j. (get_or (entries_of (changed t (map change_of ps))) j ([], null)).0) (sym (sym here ∙ same)) ∙ at.1))
        ] refl

    -- and its child with it, where all before it are children of patches
    pub entry_at_patch : (p : Patch) (u : Tree) → i < length ps → p ≡ get_or ps i p → p.before ≡ i → p.child ≡ Some u → Some (p.key.now, u) ≡ slice_get (entries_of (changed t (map change_of ps))) i
    entry_at_patch p u inside at same is =
        let key_found = at_patch i p inside (ap (is_behind i) (sym at) ∙ ahead_of i p u same is) (ap (λ (q : Patch). q.before) (sym at) ∙ same) in
        entry_is (changed t (map change_of ps)) i p.key.now (ap (λ (q : Patch). Some q.key.now) at ∙ key_found) u
        (sym (ap (λ (q : Patch). non_null (sub (changed t (map change_of ps)) (q.key.now ∷ []))) at ∙ child_is i p inside ∙ ap (λ (q : Patch). q.child) (sym at) ∙ is))

    -- a stored child, between the patches before the index and the next one
    pub at_stored : (m : ℕ) (d : Patch) → m < length ps → ((n : ℕ) → n < m → is_behind i (get_or ps n d) ≡ true) → is_behind i (get_or ps m d) ≡ false → (get_or ps m d).before ≢ i
        → ((i ≤ (get_or ps m d).before) × ((get_or ps m d).before - i ≤ (get_or ps m d).stored_before)) × (slice_get (child_keys t) ((get_or ps m d).stored_before - ((get_or ps m d).before - i)) ≡ slice_get (child_keys (changed t (map change_of ps))) i)
    at_stored m d inside all ahead other =
        let p = get_or ps m d in
        let here = (placed m d inside).here in
        let there = (placed m d inside).stored in
        let far = (not_behind p.before i p.child ahead).0 in
        let lower : is_before key p.key.now ≡ true = lower_key p.key.now (omega arith) in
        let made = stored_index t (map change_of ps) key (λ l. is_before l p.key.now) i h.changes (λ l low_key. before_trans l key p.key.now low_key lower) (each_change _ ps (all_by_recursion _ ps apart)) lower key_some key_index (omega arith) in
        let fits = made.0 in
        ((omega arith, omega arith), (λ j. slice_get (child_keys t) (there j - (here j - i))) ∙ made.1 ∙ sym key_is)
      where
        lower_key : (k : Key) → i < before k (changed t (map change_of ps)) → is_before key k ≡ true
        lower_key k more =
            elim (is_before key k) as (λ b. is_before key k ≡ b → b ≡ true) [
              | true ↦ λ _. refl
              | false ↦ λ g. absurd (let le = at_most k g in omega arith)
            ] refl

        apart : (n : ℕ) (e : Patch) → n < length ps → (is_before (get_or ps n e).key.now key ≡ true) ⊎ (is_before (get_or ps n e).key.now (get_or ps m d).key.now ≡ false)
        apart n e low_n =
            elim (cases_lt n m) [
              | inl first ↦ inl (subst (λ (q : Patch). is_before q.key.now key ≡ true) (any_default n d e low_n) (behind_before n d low_n (all n first)))
              | inr later ↦ inr (subst (λ (q : Patch). is_before q.key.now (get_or ps m d).key.now ≡ false) (any_default n d e low_n) (not_lower n later low_n))
            ]
          where
            any_default : (j : ℕ) (a b : Patch) → j < length ps → get_or ps j a ≡ get_or ps j b
            any_default j a b g = get_or_default ps j a b g

            not_lower : (j : ℕ) → m ≤ j → j < length ps → is_before (get_or ps j d).key.now (get_or ps m d).key.now ≡ false
            not_lower j le g = elim (equal_or_less m j le) [
              | inl same ↦ ap (λ a. is_before (get_or ps a d).key.now (get_or ps m d).key.now) (sym same) ∙ not_before_itself (get_or ps m d).key.now
              | inr less ↦ not_after (get_or ps m d).key.now (get_or ps j d).key.now (ascending ps m j d h.changes.ascending less g)
            ]

    -- a stored child behind all patches
    pub at_end : ((n : ℕ) (d : Patch) → n < length ps → is_behind i (get_or ps n d) ≡ true)
        → (wide - i ≤ length (child_keys t)) × (slice_get (child_keys t) (length (child_keys t) - (wide - i)) ≡ slice_get (child_keys (changed t (map change_of ps))) i)
    at_end all =
        let made = stored_index t (map change_of ps) key (λ l. true) i h.changes (λ l low_key. refl) (each_change _ ps (all_by_recursion _ ps (λ n d inside. inl (behind_before n d inside (all n d inside))))) refl key_some key_index (let wide_is = h.width in omega (arith, width-total (changed t (map change_of ps)))) in
        let fits = made.0 in
        let new_width : wide ≡ total one (changed t (map change_of ps)) = h.width ∙ width-total (changed t (map change_of ps)) in
        let old_width : length (child_keys t) ≡ total one t = width-total t in
        (omega arith, (λ j. slice_get (child_keys t) (old_width j - (new_width j - i))) ∙ made.1 ∙ sym key_is)

  pub past_end : (i : ℕ) → wide ≤ i → None ≡ slice_get (child_keys (changed t (map change_of ps))) i
  past_end i past = sym (slice_get_past (child_keys (changed t (map change_of ps))) i (let wide_is = h.width in omega arith))
