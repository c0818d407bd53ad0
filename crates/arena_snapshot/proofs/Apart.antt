-- Whether writes overlap, from an index on.
use Rattle.std.proofs.Common.{◌≡◌, ℕ, ◌+◌, ◌-◌, ◌≤◌, ◌<◌, true, false, ◌||◌, List, length, take, drop, get_or, sym, ap, ◌∙◌, arith}
use Rattle.std.specs.List.{list_any}
use Rattle.std.proofs.lemmas.List.{length-drop}
use Rattle.std.proofs.Math.ListN.{drop_of_length-le}
use Rattle.tree_model.specs.Put.{do_overlap, overlaps}
use Rattle.tree_model.specs.Write.{Write}
use Rattle.json_tree.proofs.Lists.{drop_next}
use Rattle.arena_snapshot.proofs.Walks.{all_of}

module _ (ws : List Write) (i : ℕ) (w : Write) (low : i < length ws) (is : w ≡ get_or ws i w) where
  first : overlaps (drop i ws) ≡ (list_any (do_overlap w) (take (length ws - (i + 1)) (drop (i + 1) ws)) || overlaps (drop (i + 1) ws))
  first =
      ap overlaps (drop_next ws i w low is)
      ∙ ap (λ xs. list_any (do_overlap w) xs || overlaps (drop (i + 1) ws)) (sym (all_of (length ws - (i + 1)) (drop (i + 1) ws) (let long = length-drop (i + 1) ws in omega arith)))

  pub overlap_found : overlaps ws ≡ overlaps (drop i ws) → list_any (do_overlap w) (take (length ws - (i + 1)) (drop (i + 1) ws)) ≡ true → true ≡ overlaps ws
  overlap_found so_far found = sym (so_far ∙ first ∙ ap (λ b. b || overlaps (drop (i + 1) ws)) found)

  pub overlap_next : overlaps ws ≡ overlaps (drop i ws) → list_any (do_overlap w) (take (length ws - (i + 1)) (drop (i + 1) ws)) ≡ false → overlaps ws ≡ overlaps (drop (i + 1) ws)
  overlap_next so_far none = so_far ∙ first ∙ ap (λ b. b || overlaps (drop (i + 1) ws)) none

pub no_overlap : (ws : List Write) (i : ℕ) → length ws ≤ i → overlaps ws ≡ overlaps (drop i ws) → false ≡ overlaps ws
no_overlap ws i all so_far = sym (so_far ∙ ap overlaps (drop_of_length-le ws all))
