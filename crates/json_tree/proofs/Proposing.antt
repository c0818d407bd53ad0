-- What one write makes of a tree: of a primitive, and of given children, where it is what it makes of one child.
use Rattle.std.proofs.Common.{◌≡◌, ◌≢◌, ◌+◌, ◌<◌, ◌≤◌, max, Bool, true, false, cond, List, [], ◌∷◌, length, Some, None, Option, option_map, option_and_then, unwrap_or, Result, Ok, Err, OnOk, OnErr, is_some, IsSome, inl, inr, sym, ap, ◌∙◌, refl, arith, length-append}
use Rattle.std.specs.List.{cons_option}
use Rattle.std.specs.FinMap.{find, is_sorted}
use Rattle.std.specs.Str.{bytes_eq}
use Rattle.std.proofs.lemmas.Map.Text.{is_eq-slice_cmp}
use Rattle.tree_model.specs.declared.limits.TheConstants.{MAX_DEPTH}
use Rattle.tree_model.specs.Key.{Key, key_cmp}
use Rattle.tree_model.specs.Path.{Path, strip_prefix}
use Rattle.tree_model.specs.Primitive.{Primitive}
use Rattle.tree_model.specs.PathMap.{get, depth}
use Rattle.tree_model.specs.Tree.{Tree, null, lone}
use Rattle.tree_model.specs.Children.{graft}
use Rattle.tree_model.specs.Put.{location, written, stays, merged, puts_below}
use Rattle.tree_model.proofs.Choices.{none_is_not_some, some_value, or_else, or_else-None}
use Rattle.tree_model.proofs.Orders.{same_key, bytes_eq-self}
use Rattle.tree_model.proofs.Lookups.{same_tree, same_below, get-null, sub-root}
use Rattle.tree_model.proofs.Existence.{length-le-depth, depth_le, depth-null}
use Rattle.tree_model.proofs.Grafts.{child_of, get-graft-root, sub-graft, IsTree-lone, get-lone-root}
use Rattle.tree_model.proofs.Placing.{get-merged, merged-none, IsPlaced}
use Rattle.tree_model.proofs.Merging.{stood_or_placed, merged_null_below, sub-merged_below}
use Rattle.tree_model.proofs.Below.{sub-merged}

-- at the root, what is put is all
pub merged-root : (t u : Tree) → merged t (([], u) ∷ []) ≡ u
merged-root t u = same_tree _ _ (λ q. get-merged t (([], u) ∷ []) q ∙ or_else-None (get u q))

-- below a primitive, what is put replaces it
pub merged-lone : (v : Primitive) (k : Key) (p : Path) (u : Tree) → u ≢ null → merged (lone v) ((k ∷ p, u) ∷ []) ≡ merged null ((k ∷ p, u) ∷ [])
merged-lone v k p u some = sym (sub-root _) ∙ sub-merged_below (lone v) [] (k ∷ p) u (IsTree-lone v) (ap is_some (get-lone-root v)) refl some

-- and there is nothing to remove
pub removed-lone : (v : Primitive) (k : Key) (p : Path) → merged (lone v) ((k ∷ p, null) ∷ []) ≡ lone v
removed-lone v k p = merged_null_below (lone v) [] (k ∷ p) (IsTree-lone v) (ap is_some (get-lone-root v)) refl

-- in nothing there is nothing to remove
pub removed-null : (p : Path) → merged null ((p, null) ∷ []) ≡ null
removed-null p = same_tree _ _ (λ q.
    get-merged null ((p, null) ∷ []) q
    ∙ (λ i. or_else (cond (stays ((p, null) ∷ []) q) (get-null q i) None) (nothing (strip_prefix p q) i))
    ∙ neither (stays ((p, null) ∷ []) q)
    ∙ sym (get-null q))
  where
    nothing : (o : Option Path) → or_else (option_and_then (get null) o) None ≡ None
    nothing None = refl
    nothing (Some r) = ap (λ o. or_else o None) (get-null r)

    neither : (b : Bool) → or_else {X = Primitive} (cond b None None) None ≡ None
    neither true = refl
    neither false = refl

-- ---- given children

root_stays_none : (t : Tree) (k : Key) (p : Path) (u : Tree) → get t [] ≡ None → get (merged t ((k ∷ p, u) ∷ [])) [] ≡ None
root_stays_none t k p u none =
    get-merged t ((k ∷ p, u) ∷ []) []
    ∙ ap (λ o. or_else (cond (stays ((k ∷ p, u) ∷ []) []) o None) None) none
    ∙ nothing (stays ((k ∷ p, u) ∷ []) [])
  where
    nothing : (b : Bool) → or_else {X = Primitive} (cond b None None) None ≡ None
    nothing true = refl
    nothing false = refl

-- below the key of the write it is a write below that key, and below another key there is none
below_key : (t : Tree) (k : Key) (p : Path) (u : Tree) → merged t (puts_below k ((k ∷ p, u) ∷ [])) ≡ merged t ((p, u) ∷ [])
below_key t k p u = ap (λ b. merged t (cons_option (option_map (λ rest. (rest, u)) (cond b (Some p) None)) [])) (bytes_eq-self k)

below_other : (t : Tree) (l k : Key) (p : Path) (u : Tree) → bytes_eq l k ≡ false → merged t (puts_below l ((k ∷ p, u) ∷ [])) ≡ t
below_other t l k p u other = ap (λ b. merged t (cons_option (option_map (λ rest. (rest, u)) (cond b (Some p) None)) [])) other ∙ merged-none t

-- the children with that of the write's key written, and the others as they were
pub merged-graft : (cs ds : List (Key × Tree)) (k : Key) (p : Path) (u : Tree) → is_sorted key_cmp cs ≡ true → is_sorted key_cmp ds ≡ true
    → child_of k ds ≡ merged (child_of k cs) ((p, u) ∷ []) → ((l : Key) → bytes_eq l k ≡ false → find key_cmp l ds ≡ find key_cmp l cs)
    → graft ds ≡ merged (graft cs) ((k ∷ p, u) ∷ [])
merged-graft cs ds k p u s r here others =
    same_below _ _ (get-graft-root ds ∙ sym (root_stays_none (graft cs) k p u (get-graft-root cs))) (λ l.
    sub-graft ds l r
    ∙ elim (bytes_eq l k) as (λ b. bytes_eq l k ≡ b → child_of l ds ≡ merged (child_of l cs) (puts_below l ((k ∷ p, u) ∷ []))) [
      | true ↦ λ same. ap (λ x. child_of x ds) (same_key l k same) ∙ here ∙ sym (below_key (child_of k cs) k p u) ∙ ap (λ x. merged (child_of x cs) (puts_below x ((k ∷ p, u) ∷ []))) (sym (same_key l k same))
      | false ↦ λ other. ap (λ o. unwrap_or o null) (others l other) ∙ sym (below_other (child_of l cs) l k p u other)
    ] refl
    ∙ ap (λ t. merged t (puts_below l ((k ∷ p, u) ∷ []))) (sym (sub-graft cs l s))
    ∙ sym (sub-merged (graft cs) ((k ∷ p, u) ∷ []) l refl))

-- ---- depth

-- what is put is no deeper than the tree was, or than its own depth below its location
pub depth-merged : (t : Tree) (p : Path) (u : Tree) → depth (merged t ((p, u) ∷ [])) ≤ max (depth t) (length p + depth u)
depth-merged t p u = depth_le (merged t ((p, u) ∷ [])) (max (depth t) (length p + depth u)) within
  where
    placed : (q : Path) (v : Primitive) → IsPlaced ((p, u) ∷ []) q v → length q ≤ length p + depth u
    placed q v there = elim there.among [
      | inl same ↦
          let deep = length-le-depth (written there.write) there.rest (ap is_some there.is) in
          let long : length q ≡ length (location there.write) + length there.rest = ap length there.at ∙ length-append (location there.write) there.rest in
          let above : length (location there.write) ≡ length p = ap (λ w. length (location w)) (sym same) in
          let put : depth (written there.write) ≡ depth u = ap (λ w. depth (written w)) (sym same) in
          omega arith
      | inr none ↦ elim none [ ]
    ]

    within : (q : Path) → IsSome (get (merged t ((p, u) ∷ [])) q) → length q ≤ max (depth t) (length p + depth u)
    within q there =
        let value = some_value _ there in
        elim (stood_or_placed t ((p, u) ∷ []) q value.0 value.1) [
          | inl stood ↦ let le = length-le-depth t q (ap is_some stood.1) in omega arith
          | inr put ↦ let le = placed q value.0 put in omega arith
        ]

-- a removal leaves nothing deeper
pub depth-removed : (t : Tree) (p : Path) → depth (merged t ((p, null) ∷ [])) ≤ depth t
depth-removed t p = depth_le (merged t ((p, null) ∷ [])) (depth t) within
  where
    placed : (q : Path) (v : Primitive) → IsPlaced ((p, null) ∷ []) q v → ⊥
    placed q v there = elim there.among [
      | inl same ↦ none_is_not_some _ (ap (λ w. get (written w) there.rest) (sym same) ∙ get-null there.rest) (ap is_some there.is)
      | inr none ↦ elim none [ ]
    ]

    within : (q : Path) → IsSome (get (merged t ((p, null) ∷ [])) q) → length q ≤ depth t
    within q there =
        let value = some_value _ there in
        elim (stood_or_placed t ((p, null) ∷ []) q value.0 value.1) [
          | inl stood ↦ length-le-depth t q (ap is_some stood.1)
          | inr put ↦ absurd (placed q value.0 put)
        ]

-- ---- the tree of a tree at a path

pub empty_graft : graft [] ≡ null
unfolding graft
empty_graft = refl

-- one child, which is what is put below its key
pub merged-chain : (k : Key) (p : Path) (t u : Tree) → t ≡ merged null ((p, u) ∷ []) → graft ((k, t) ∷ []) ≡ merged null ((k ∷ p, u) ∷ [])
merged-chain k p t u is =
    merged-graft [] ((k, t) ∷ []) k p u refl refl (ap (λ b. unwrap_or (cond b (Some t) None) null) (is_eq-slice_cmp k k ∙ bytes_eq-self k) ∙ is) (λ l other. ap (λ b. cond b (Some t) None) (is_eq-slice_cmp l k ∙ other))
    ∙ ap (λ v. merged v ((k ∷ p, u) ∷ [])) empty_graft

pub depth-chain : (t : Tree) (p : Path) (u : Tree) → t ≡ merged null ((p, u) ∷ []) → depth t ≤ length p + depth u
depth-chain t p u is = let le = depth-merged null p u in let same = ap depth is in omega (arith, depth-null)

-- where there was room above a child, there still is
pub room_after : {T E : Type 0} (r : Result T E) (t new : Tree) (p : Path) (u : Tree) → OnOk r (new ≡ merged t ((p, u) ∷ [])) → OnErr r (new ≡ t) → depth t < MAX_DEPTH → length p + depth u < MAX_DEPTH → depth new < MAX_DEPTH
room_after (Ok v) t new p u ok err old put = let le = depth-merged t p u in let same = ap depth ok in omega arith
room_after (Err e) t new p u ok err old put = let same = ap depth err in omega arith
