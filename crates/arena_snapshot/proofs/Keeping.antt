-- The tree of some children of a tree, laid over nothing.
use Rattle.std.proofs.Common.{◌≡◌, ℕ, zero, suc, ◌+◌, ◌≤◌, ◌<◌, true, false, cond, ◌&&◌, List, [], ◌∷◌, ◌++◌, map, length, take, get_or, Some, None, Option, option_map, unwrap_or, sym, ap, ◌∙◌, subst, refl, arith}
use Rattle.std.specs.declared.cmp.Ordering.TheVariants.{Less}
use Rattle.std.specs.Ordering.{is_lt, eq_by_cmp}
use Rattle.std.specs.Cmp.{first_so, second_so}
use Rattle.std.specs.List.{AllByRecursion, filter_map, slice_get, cons_option}
use Rattle.std.specs.FinMap.{find, is_sorted}
use Rattle.std.specs.FinMap.Entries.{below_all}
use Rattle.std.proofs.lemmas.List.Elements.{filter_map-append}
use Rattle.tree_model.specs.Key.{Key, key_cmp}
use Rattle.tree_model.specs.PathMap.{sub}
use Rattle.tree_model.specs.Tree.{Tree, null, IsLawful}
use Rattle.tree_model.specs.Children.{graft, IsLawfulChild}
use Rattle.tree_model.proofs.Lookups.{same_below, get-null, sub-null}
use Rattle.tree_model.proofs.Grafts.{get-graft-root, sub-graft}
use Rattle.tree_model.proofs.Lawful.{IsLawful-graft}
use Rattle.json_tree.proofs.Children.{each_subtree, IsLawful-sub, child_key, depth-sub}
use Rattle.json_tree.proofs.Lists.{take_next, all_from_recursion}
use Rattle.json_tree.proofs.Nodes.{depth_within}
use Rattle.arena_snapshot.specs.Kept.{kept, StrictlyAscend}
use Rattle.arena_snapshot.specs.Working.Change.{Change, changed, AllBefore, entries_of}
use Rattle.arena_snapshot.specs.Working.Changing.{child_after, sub-changed, get-changed-root}
use Rattle.arena_snapshot.proofs.Entries.{entry_low}
use Rattle.arena_snapshot.proofs.Ranks.{Entries, less_of, above_first}
use Rattle.arena_snapshot.proofs.Sums.{entries_sorted}

-- the change that puts a child
abbrev pub put : Key × Tree → Change
put e = (e.0, Some e.1)

below_all-put : (k : Key) (es : Entries) → below_all key_cmp k (map put es) ≡ below_all key_cmp k es
below_all-put k [] = refl
below_all-put k (e ∷ es) = ap (λ b. is_lt (key_cmp k e.0) && b) (below_all-put k es)

sorted-put : (es : Entries) → is_sorted key_cmp (map put es) ≡ is_sorted key_cmp es
sorted-put [] = refl
sorted-put (e ∷ es) = λ i. below_all-put e.0 es i && sorted-put es i

find-put : (k : Key) (es : Entries) → find key_cmp k (map put es) ≡ option_map Some (find key_cmp k es)
find-put k [] = refl
find-put k (e ∷ es) = elim (eq_by_cmp key_cmp k e.0) as (λ b. cond b (Some (Some e.1)) (find key_cmp k (map put es)) ≡ option_map Some (cond b (Some e.1) (find key_cmp k es))) [ true ↦ refl | false ↦ find-put k es ]

-- children that are laid over nothing make their tree
pub changed-null : (es : Entries) → is_sorted key_cmp (map put es) ≡ true → changed null (map put es) ≡ graft es
changed-null es s = same_below _ _ (get-changed-root null (map put es) (get-null []) ∙ sym (get-graft-root es)) (λ k.
    sub-changed null (map put es) k s
    ∙ ap (child_after (sub null (k ∷ []))) (find-put k es)
    ∙ laid (sub null (k ∷ [])) (sub-null (k ∷ [])) (find key_cmp k es)
    ∙ sym (sub-graft es k (sym (sorted-put es) ∙ s)))
  where
    laid : (t : Tree) → t ≡ null → (o : Option Tree) → child_after t (option_map Some o) ≡ unwrap_or o null
    laid t none None = none
    laid t none (Some u) = refl

-- ---- the children at indices

abbrev pub at_indices : Tree → List ℕ → Entries
at_indices t indices = filter_map (slice_get (entries_of t)) indices

-- a child stands behind those at earlier indices
pub entry_before : (es : Entries) (p q : ℕ) (f e : Key × Tree) → is_sorted key_cmp es ≡ true → p < q → Some f ≡ slice_get es p → Some e ≡ slice_get es q → key_cmp f.0 e.0 ≡ Less
entry_before [] p q f e s less is_f is_e = cc
entry_before (x ∷ es) p zero f e s less is_f is_e = absurd (omega arith)
entry_before (x ∷ es) zero (suc q) f e s less is_f is_e =
    let at = entry_low es q e is_e in
    let same : f ≡ x = cc in
    (λ i. key_cmp (same i).0 (at.1 i).0) ∙ less_of (key_cmp x.0 (get_or es q e).0) (above_first x es q e (first_so (below_all key_cmp x.0 es) _ s) at.0)
entry_before (x ∷ es) (suc p) (suc q) f e s less is_f is_e = entry_before es p q f e (second_so _ _ s) (omega arith) is_f is_e

pub behind_all : (t : Tree) (indices : List ℕ) (q : ℕ) (e : Key × Tree) → AllByRecursion (λ p. p < q) indices → Some e ≡ slice_get (entries_of t) q → AllBefore e.0 (map put (at_indices t indices))
behind_all t [] q e less is = tt
behind_all t (p ∷ indices) q e less is =
    elim (slice_get (entries_of t) p) as (λ o. slice_get (entries_of t) p ≡ o → AllBefore e.0 (map put (cons_option o (at_indices t indices)))) [
      | None ↦ λ _. behind_all t indices q e less.1 is
      | (Some f) ↦ λ at. (entry_before (entries_of t) p q f e (entries_sorted t) less.0 (sym at) is, behind_all t indices q e less.1 is)
    ] refl

pub earlier : (indices : List ℕ) (i : ℕ) (d : ℕ) → StrictlyAscend indices → i < length indices → AllByRecursion (λ p. p < get_or indices i d) (take i indices)
earlier indices i d h low = go i indices (λ j less. h j i d less low) (omega arith)
  where
    go : (n : ℕ) (ps : List ℕ) → ((j : ℕ) → j < n → get_or ps j d < get_or indices i d) → n ≤ length ps → AllByRecursion (λ p. p < get_or indices i d) (take n ps)
    go zero ps all le = tt
    go (suc n) [] all le = tt
    go (suc n) (p ∷ ps) all le = (all 0 (omega arith), go n ps (λ j less. all (suc j) (omega arith)) (omega arith))

-- one index more
pub indices_next : (t : Tree) (indices : List ℕ) (i q : ℕ) (o : Option (Key × Tree)) → i < length indices → q ≡ get_or indices i q → o ≡ slice_get (entries_of t) q → at_indices t (take (i + 1) indices) ≡ at_indices t (take i indices) ++ cons_option o []
indices_next t indices i q o low at is =
    ap (at_indices t) (take_next indices i q low at)
    ∙ filter_map-append (slice_get (entries_of t)) (take i indices) (q ∷ [])
    ∙ ap (λ x. at_indices t (take i indices) ++ cons_option x []) (sym is)

-- ---- lawful children

lawful_children : (t : Tree) → IsLawful t → AllByRecursion IsLawfulChild (entries_of t)
lawful_children t h = each_subtree IsLawfulChild t (λ k some. record {
  key = child_key t k h some;
  tree = IsLawful-sub t k h;
  depth = (let less = depth-sub t k some in let deep = depth_within t h in omega arith);
})

lawful_at : (t : Tree) → IsLawful t → (indices : List ℕ) → AllByRecursion IsLawfulChild (at_indices t indices)
lawful_at t h [] = tt
lawful_at t h (p ∷ indices) =
    elim (slice_get (entries_of t) p) as (λ o. slice_get (entries_of t) p ≡ o → AllByRecursion IsLawfulChild (cons_option o (at_indices t indices))) [
      | None ↦ λ _. lawful_at t h indices
      | (Some e) ↦ λ at.
          let here = entry_low (entries_of t) p e (sym at) in
          (subst IsLawfulChild (sym here.1) (all_from_recursion IsLawfulChild (entries_of t) (lawful_children t h) p e here.0), lawful_at t h indices)
    ] refl

pub kept_lawful : (t : Tree) (indices : List ℕ) → IsLawful t → is_sorted key_cmp (map put (at_indices t indices)) ≡ true → IsLawful (changed null (map put (at_indices t indices)))
kept_lawful t indices h s = subst IsLawful (sym (changed-null (at_indices t indices) s)) (IsLawful-graft (at_indices t indices) (sym (sorted-put (at_indices t indices)) ∙ s) (lawful_at t h indices))

pub kept_is : (t : Tree) (indices : List ℕ) → is_sorted key_cmp (map put (at_indices t indices)) ≡ true → changed null (map put (at_indices t indices)) ≡ kept t indices
unfolding kept
kept_is t indices s = changed-null (at_indices t indices) s
