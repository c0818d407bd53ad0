-- The order of writes that do not overlap.
use Rattle.std.proofs.Common.{◌≡◌, false, cond, not, ◌&&◌, ◌||◌, List, [], ◌∷◌, Some, None, sym, ◌∙◌, refl}
use Rattle.std.specs.List.{list_any, AllByRecursion, IsDistinct}
use Rattle.std.specs.List.Sorted.{IsPermutation}
use Rattle.std.proofs.lemmas.List.Sorted.{IsPermutation-sym, Contains-permutation, list_any-IsPermutation}
use Rattle.std.proofs.lemmas.Map.Keys.{IsDistinct-IsPermutation}
use Rattle.tree_model.specs.Path.{Path}
use Rattle.tree_model.specs.Primitive.{Primitive}
use Rattle.tree_model.specs.PathMap.{get}
use Rattle.tree_model.specs.Tree.{Tree}
use Rattle.tree_model.specs.Put.{Put, do_overlap, overlaps, is_replaced, is_covered, merged}
use Rattle.tree_model.proofs.Choices.{neither, or_else}
use Rattle.tree_model.proofs.Lookups.{same_tree}
use Rattle.tree_model.proofs.Placing.{placed_at, get-merged, overlap_swap, is_in, at_in, placed_from, placed_to}

none_of : (w : Put) (ws : List Put) → list_any (do_overlap w) ws ≡ false → AllByRecursion (λ x. do_overlap w x ≡ false) ws
none_of w [] h = tt
none_of w (x ∷ ws) h = ((neither _ _ h).0, none_of w ws (neither _ _ h).1)

any_of : (w : Put) (ws : List Put) → AllByRecursion (λ x. do_overlap w x ≡ false) ws → list_any (do_overlap w) ws ≡ false
any_of w [] h = refl
any_of w (x ∷ ws) h = λ i. (h.0 i) || any_of w ws h.1 i

distinct_from : (ws : List Put) → overlaps ws ≡ false → IsDistinct do_overlap ws
unfolding IsDistinct
distinct_from [] h = tt
distinct_from (w ∷ ws) h = (none_of w ws (neither _ _ h).0, distinct_from ws (neither _ _ h).1)

distinct_to : (ws : List Put) → IsDistinct do_overlap ws → overlaps ws ≡ false
unfolding IsDistinct
distinct_to [] h = refl
distinct_to (w ∷ ws) h = λ i. any_of w ws h.0 i || distinct_to ws h.1 i

-- writes that do not overlap do not in any order
pub overlaps-permutation : (ws xs : List Put) → IsPermutation ws xs → overlaps ws ≡ false → overlaps xs ≡ false
overlaps-permutation ws xs p h = distinct_to xs (IsDistinct-IsPermutation do_overlap overlap_swap ws xs p (distinct_from ws h))

placed_in_any_order : (ws xs : List Put) (q : Path) (v : Primitive) → IsPermutation ws xs → overlaps xs ≡ false → placed_at ws q ≡ Some v → placed_at xs q ≡ Some v
placed_in_any_order ws xs q v p h e =
    let placed = placed_from ws q v e in
    placed_to xs q v h (record { write = placed.write; among = is_in xs placed.write (Contains-permutation ws xs placed.write p (at_in ws placed.write placed.among)); rest = placed.rest; at = placed.at; is = placed.is })

placed_at-permutation : (ws xs : List Put) (q : Path) → IsPermutation ws xs → overlaps ws ≡ false → placed_at ws q ≡ placed_at xs q
placed_at-permutation ws xs q p h =
    elim (placed_at ws q) as (λ o. placed_at ws q ≡ o → o ≡ placed_at xs q) [
      | None ↦ λ none. elim (placed_at xs q) as (λ o. placed_at xs q ≡ o → None ≡ o) [
        | None ↦ λ _. refl
        | (Some v) ↦ λ e. let back = placed_in_any_order xs ws q v (IsPermutation-sym ws xs p) h e in cc
      ] refl
      | (Some v) ↦ λ e. sym (placed_in_any_order ws xs q v p (overlaps-permutation ws xs p h) e)
    ] refl

pub merged-permutation : (t : Tree) (ws xs : List Put) → IsPermutation ws xs → overlaps ws ≡ false → merged t ws ≡ merged t xs
merged-permutation t ws xs p h = same_tree _ _ (λ q.
    get-merged t ws q
    ∙ (λ i. or_else (cond (not (list_any-IsPermutation (is_replaced q) ws xs p i) && not (list_any-IsPermutation (is_covered q) ws xs p i)) (get t q) None) (placed_at-permutation ws xs q p h i))
    ∙ sym (get-merged t xs q))
