-- Below a key, the merged tree is what the writes below that key propose.
use Rattle.std.proofs.Common.{◌≡◌, Bool, true, false, cond, not, ◌&&◌, ◌||◌, List, [], ◌∷◌, Some, None, option_map, option_and_then, is_some, sym, ◌∙◌, refl}
use Rattle.std.specs.List.{list_any, cons_option}
use Rattle.std.specs.Option.{option_map_or}
use Rattle.std.specs.Str.{bytes_eq}
use Rattle.std.proofs.lemmas.Bool.{false≢true}
use Rattle.tree_model.specs.Key.{Key}
use Rattle.tree_model.specs.Path.{Path, strip_prefix, is_root}
use Rattle.tree_model.specs.PathMap.{get, is_null, sub}
use Rattle.tree_model.specs.Tree.{Tree}
use Rattle.tree_model.specs.Put.{Put, location, is_replaced, is_covered, merged, puts_below}
use Rattle.tree_model.proofs.Choices.{or_else}
use Rattle.tree_model.proofs.Orders.{bytes_eq-swap}
use Rattle.tree_model.proofs.Lookups.{same_tree, get-sub}
use Rattle.tree_model.proofs.Placing.{placed_at, get-merged}

abbrev pub is_at_root : Put → Bool
is_at_root w = is_root (location w)

-- the writes below k, where the first of them is at l ∷ p
abbrev next : Bool → Path → Tree → List Put → List Put
next b p u ws = cons_option (option_map (λ r. (r, u)) (cond b (Some p) None)) ws

replaced-below : (k : Key) (q : Path) (ws : List Put) → list_any is_at_root ws ≡ false → list_any (is_replaced (k ∷ q)) ws ≡ list_any (is_replaced q) (puts_below k ws)
replaced-below k q [] h = refl
replaced-below k q (([], u) ∷ ws) h = absurd (false≢true (sym h))
replaced-below k q ((l ∷ p, u) ∷ ws) h =
    (λ i. is_some (cond (bytes_eq-swap l k i) (strip_prefix p q) None) || replaced-below k q ws h i)
    ∙ elim (bytes_eq k l) as (λ b. (is_some (cond b (strip_prefix p q) None) || list_any (is_replaced q) (puts_below k ws)) ≡ list_any (is_replaced q) (next b p u (puts_below k ws))) [ true ↦ refl | false ↦ refl ]

covered-below : (k : Key) (q : Path) (ws : List Put) → list_any is_at_root ws ≡ false → list_any (is_covered (k ∷ q)) ws ≡ list_any (is_covered q) (puts_below k ws)
covered-below k q [] h = refl
covered-below k q (([], u) ∷ ws) h = absurd (false≢true (sym h))
covered-below k q ((l ∷ p, u) ∷ ws) h =
    (λ i. is_covered (k ∷ q) (l ∷ p, u) || covered-below k q ws h i)
    ∙ elim (bytes_eq k l) as (λ b. ((option_map_or (λ rest. not (is_root rest)) (cond b (strip_prefix q p) None) false && not (is_null u)) || list_any (is_covered q) (puts_below k ws)) ≡ list_any (is_covered q) (next b p u (puts_below k ws))) [ true ↦ refl | false ↦ refl ]

placed-below : (k : Key) (q : Path) (ws : List Put) → list_any is_at_root ws ≡ false → placed_at ws (k ∷ q) ≡ placed_at (puts_below k ws) q
placed-below k q [] h = refl
placed-below k q (([], u) ∷ ws) h = absurd (false≢true (sym h))
placed-below k q ((l ∷ p, u) ∷ ws) h =
    (λ i. or_else (option_and_then (get u) (cond (bytes_eq-swap l k i) (strip_prefix p q) None)) (placed-below k q ws h i))
    ∙ elim (bytes_eq k l) as (λ b. or_else (option_and_then (get u) (cond b (strip_prefix p q) None)) (placed_at (puts_below k ws) q) ≡ placed_at (next b p u (puts_below k ws)) q) [ true ↦ refl | false ↦ refl ]

pub sub-merged : (t : Tree) (ws : List Put) (k : Key) → list_any is_at_root ws ≡ false → sub (merged t ws) (k ∷ []) ≡ merged (sub t (k ∷ [])) (puts_below k ws)
sub-merged t ws k h = same_tree _ _ (λ q.
    get-sub (merged t ws) (k ∷ []) q
    ∙ get-merged t ws (k ∷ q)
    ∙ (λ i. or_else (cond (not (replaced-below k q ws h i) && not (covered-below k q ws h i)) (sym (get-sub t (k ∷ []) q) i) None) (placed-below k q ws h i))
    ∙ sym (get-merged (sub t (k ∷ [])) (puts_below k ws) q))
