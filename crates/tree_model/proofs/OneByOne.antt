-- Writes that do not overlap, made one after another.
use Rattle.std.proofs.Common.{◌≡◌, Bool, true, false, cond, not, ◌&&◌, ◌||◌, List, [], ◌∷◌, Some, None, Option, option_and_then, is_some, sym, ap, ◌∙◌, refl}
use Rattle.std.specs.List.{list_any}
use Rattle.std.specs.Cmp.{first_so}
use Rattle.tree_model.specs.Path.{Path, strip_prefix, is_prefix}
use Rattle.tree_model.specs.Primitive.{Primitive}
use Rattle.tree_model.specs.PathMap.{get}
use Rattle.tree_model.specs.Tree.{Tree}
use Rattle.tree_model.specs.Put.{Put, location, written, do_overlap, overlaps, is_replaced, is_covered, stays, merged}
use Rattle.tree_model.proofs.Choices.{true_is_not_false, not_true, neither, or_else, or_else-None}
use Rattle.tree_model.proofs.Lookups.{same_tree}
use Rattle.tree_model.proofs.Merging.{prefix_from_proper, prefix_trans}
use Rattle.tree_model.proofs.Placing.{placed_at, get-merged, prefixes_compare}

both_false : (a b : Bool) → a ≡ false → b ≡ false → (a || b) ≡ false
both_false a b x y = λ i. (x i) || (y i)

-- at and below a written location no other write replaces or covers anything
untouched : (w : Put) (ws : List Put) (q : Path) → list_any (do_overlap w) ws ≡ false → is_prefix (location w) q ≡ true → (list_any (is_replaced q) ws ≡ false) × (list_any (is_covered q) ws ≡ false)
untouched w [] q h g = (refl, refl)
untouched w (x ∷ ws) q h g =
    let apart = neither _ _ h in
    let rest = untouched w ws q apart.1 g in
    (both_false _ _ (not_true _ (λ e. true_is_not_false _ (prefixes_compare (location w) (location x) q g e) apart.0)) rest.0, both_false _ _ (not_true _ (λ e. true_is_not_false _ (above e) apart.0)) rest.1)
  where
    above : is_covered q x ≡ true → do_overlap w x ≡ true
    above e = ap (λ b. b || is_prefix (location x) (location w)) (prefix_trans (location w) q (location x) g (prefix_from_proper q (location x) (first_so _ _ e)))

-- what stands at a path, by what the first write does there and what the others do
joined : (o : Option Path) (c others_replace others_cover : Bool) (stood placed : Option Primitive) (found : Path → Option Primitive) → (is_some o ≡ true → (others_replace ≡ false) × (others_cover ≡ false)) → or_else (cond (not (is_some o || others_replace) && not (c || others_cover)) stood None) (or_else (option_and_then found o) placed) ≡ or_else (cond (not others_replace && not others_cover) (or_else (cond (not (is_some o || false) && not (c || false)) stood None) (or_else (option_and_then found o) None)) None) placed
joined None c true k s p f h = refl
joined None true false true s p f h = refl
joined None true false false s p f h = refl
joined None false false true s p f h = refl
joined None false false false s p f h = ap (λ o. or_else o p) (sym (or_else-None s))
joined (Some r) c a k s p f h =
    let none = h refl in
    ap (λ o. or_else o p) (sym (or_else-None (f r)))
    ∙ (λ i. or_else (cond (not (sym none.0 i) && not (sym none.1 i)) (or_else (f r) None) None) p)

pub merged-cons : (t : Tree) (w : Put) (ws : List Put) → overlaps (w ∷ ws) ≡ false → merged t (w ∷ ws) ≡ merged (merged t (w ∷ [])) ws
merged-cons t w ws h = same_tree _ _ (λ q.
    get-merged t (w ∷ ws) q
    ∙ joined (strip_prefix (location w) q) (is_covered q w) (list_any (is_replaced q) ws) (list_any (is_covered q) ws) (get t q) (placed_at ws q) (get (written w)) (untouched w ws q (neither _ _ h).0)
    ∙ sym (get-merged (merged t (w ∷ [])) ws q ∙ ap (λ o. or_else (cond (stays ws q) o None) (placed_at ws q)) (get-merged t (w ∷ []) q)))
