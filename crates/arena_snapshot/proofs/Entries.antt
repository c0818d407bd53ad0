-- The children of a tree with their keys, one by one.
use Rattle.std.proofs.Common.{◌≡◌, ℕ, zero, suc, ◌+◌, ◌≤◌, ◌<◌, [], ◌∷◌, ◌++◌, length, take, get_or, Some, None, inl, inr, sym, ap, ◌∙◌, subst, refl, arith}
use Rattle.std.specs.List.{slice_get, All}
use Rattle.std.proofs.lemmas.Bool.{cases_lt}
use Rattle.std.proofs.lemmas.Option.{slice_get_past}
use Rattle.tree_model.specs.declared.limits.TheConstants.{MAX_DEPTH}
use Rattle.tree_model.specs.Key.{Key, key_cmp}
use Rattle.tree_model.specs.PathMap.{sub, depth}
use Rattle.tree_model.specs.Tree.{Tree, null, non_null, child_keys}
use Rattle.tree_model.proofs.Orders.{keys_total}
use Rattle.std.specs.Cmp.{tied_itself}
use Rattle.json_tree.proofs.Children.{children_depth}
use Rattle.json_tree.proofs.Lists.{take_next, all_from_recursion}
use Rattle.json_tree.proofs.Places.{find_at}
use Rattle.arena_snapshot.specs.Working.Change.{entries_of}
use Rattle.arena_snapshot.proofs.Ranks.{Entries, key_at, width-entries}
use Rattle.arena_snapshot.proofs.Sums.{entries_sorted, find-entries}

pub entry_at : (es : Entries) (i : ℕ) (d : Key × Tree) → i < length es → slice_get es i ≡ Some (get_or es i d)
entry_at [] i d low = absurd (omega arith)
entry_at (e ∷ es) zero d low = refl
entry_at (e ∷ es) (suc i) d low = entry_at es i d (omega arith)

pub no_entry : (es : Entries) (i : ℕ) → length es ≤ i → slice_get es i ≡ None
no_entry [] i past = refl
no_entry (e ∷ es) zero past = absurd (omega arith)
no_entry (e ∷ es) (suc i) past = no_entry es i (omega arith)

pub entry_low : (es : Entries) (i : ℕ) (e : Key × Tree) → Some e ≡ slice_get es i → (i < length es) × (e ≡ get_or es i e)
entry_low [] i e is = cc
entry_low (f ∷ es) zero e is = (omega arith, (let same : e ≡ f = cc in same))
entry_low (f ∷ es) (suc i) e is = let rest = entry_low es i e is in let low = rest.0 in (omega arith, rest.1)

pub entry_none : (t : Tree) (i : ℕ) → None ≡ slice_get (child_keys t) i → None ≡ slice_get (entries_of t) i
entry_none t i none = elim (cases_lt i (length (entries_of t))) [
  | inl low ↦ let is = none ∙ key_at t i ([], null) low in cc
  | inr past ↦ sym (no_entry (entries_of t) i past)
]

module _ (t : Tree) (i : ℕ) (k : Key) (found : Some k ≡ slice_get (child_keys t) i) where
  low : i < length (entries_of t)
  low = elim (cases_lt i (length (entries_of t))) [
    | inl less ↦ less
    | inr past ↦ absurd (some_is_none (found ∙ slice_get_past (child_keys t) i (omega (arith, width-entries t))))
  ]
    where
      some_is_none : Some k ≡ None → ⊥
      some_is_none e = cc

  key_is : (get_or (entries_of t) i (k, null)).0 ≡ k
  key_is = let is = found ∙ key_at t i (k, null) low in cc

  child_is : Some (get_or (entries_of t) i (k, null)).1 ≡ non_null (sub t (k ∷ []))
  child_is =
      sym (find_at k (entries_of t) i (k, null) (entries_sorted t) low (ap (λ l. key_cmp l k) key_is ∙ tied_itself keys_total k))
      ∙ find-entries t k

  pub entry_gone : None ≡ non_null (sub t (k ∷ [])) → ⊥
  entry_gone none = let is = none ∙ sym child_is in cc

  pub entry_is : (u : Tree) → Some u ≡ non_null (sub t (k ∷ [])) → Some (k, u) ≡ slice_get (entries_of t) i
  entry_is u is =
      let same : (get_or (entries_of t) i (k, null)).1 ≡ u = (let both = child_is ∙ sym is in cc) in
      sym (entry_at (entries_of t) i (k, null) low ∙ (λ j. Some (key_is j, same j)))

-- a child is less deep than its parent
pub entry_depth : (t : Tree) (i : ℕ) (k : Key) (u : Tree) → Some (k, u) ≡ slice_get (entries_of t) i → depth u + 1 ≤ depth t
entry_depth t i k u is =
    let F : Key × Tree → Type 0 = λ c. depth c.1 + 1 ≤ depth t in
    let at = entry_low (entries_of t) i (k, u) is in
    subst F (sym at.1) (all_from_recursion F (entries_of t) (children_depth t) i (k, u) at.0)

-- one child more of those so far
pub entry_next : (t : Tree) (i : ℕ) (e : Key × Tree) → Some e ≡ slice_get (entries_of t) i → take (i + 1) (entries_of t) ≡ take i (entries_of t) ++ e ∷ []
entry_next t i e is = let at = entry_low (entries_of t) i e is in take_next (entries_of t) i e at.0 at.1

pub children_room : (t : Tree) → depth t ≤ MAX_DEPTH → All (λ (c : Key × Tree). depth c.1 < MAX_DEPTH) (entries_of t)
children_room t deep k d within =
    let F : Key × Tree → Type 0 = λ c. depth c.1 + 1 ≤ depth t in
    let le = all_from_recursion F (entries_of t) (children_depth t) k d within in
    omega arith

-- lists of one length that have the same at each index are one
pub same_entries_at : (es fs : Entries) → length es ≡ length fs → ((i : ℕ) → i < length es → slice_get es i ≡ slice_get fs i) → es ≡ fs
same_entries_at [] [] long h = refl
same_entries_at [] (f ∷ fs) long h = absurd (omega arith)
same_entries_at (e ∷ es) [] long h = absurd (omega arith)
same_entries_at (e ∷ es) (f ∷ fs) long h =
    let first : e ≡ f = (let both = h 0 (omega arith) in cc) in
    (λ j. first j ∷ same_entries_at es fs (omega arith) (λ i low. h (suc i) (omega arith)) j)
