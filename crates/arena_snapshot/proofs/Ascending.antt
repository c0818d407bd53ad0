-- Writes whose locations are sorted: none comes before an earlier one.
use Rattle.std.proofs.Common.{◌≡◌, ℕ, zero, suc, ◌+◌, ◌-◌, ◌<◌, true, false, List, [], ◌∷◌, map, length, get_or, sym, ap, ◌∙◌, refl, arith}
use Rattle.std.specs.declared.cmp.Ordering.TheVariants.{Less, Equal, Greater}
use Rattle.std.specs.Ordering.{is_lt, ordering_reverse}
use Rattle.std.specs.List.Sorted.{IsSortedBy}
use Rattle.std.proofs.lemmas.List.{length-map, get_or-map}
use Rattle.tree_model.specs.Path.{Path, path_cmp}
use Rattle.tree_model.specs.Put.{Put, location}
use Rattle.tree_model.specs.Write.{Write}
use Rattle.tree_model.proofs.Orders.{paths_total, exact_paths}
use Rattle.arena_snapshot.specs.Working.Left.{left, Ascend}
use Rattle.std.specs.Borrow.{Bor}

not_before : (a b c : Path) → is_lt (path_cmp b a) ≡ false → is_lt (path_cmp c b) ≡ false → is_lt (path_cmp c a) ≡ false
not_before a b c h g =
    elim (path_cmp c a) as (λ o. path_cmp c a ≡ o → is_lt o ≡ false) [
      | Less ↦ λ e. elim (path_cmp b a) as (λ o. path_cmp b a ≡ o → is_lt o ≡ false → true ≡ false) [
        | Less ↦ λ _ less. less
        | Equal ↦ λ same _. ap is_lt (sym (ap (path_cmp c) (exact_paths b a same) ∙ e)) ∙ g
        | Greater ↦ λ above _. ap is_lt (sym (paths_total.trans c a b e (paths_total.antisymm a b ∙ ap ordering_reverse above))) ∙ g
      ] refl h
      | Equal ↦ λ _. refl
      | Greater ↦ λ _. refl
    ] refl

adjacent : (now : ℕ) (qs : List (Bor Write)) → IsSortedBy (λ a b. is_lt (path_cmp (location a.now) (location b.now))) qs → (k : ℕ) (e : Put) → k + 1 < length qs
    → is_lt (path_cmp (location (get_or (map (left now 0) qs) (k + 1) e)) (location (get_or (map (left now 0) qs) k e))) ≡ false
adjacent now [] s k e low = absurd (omega arith)
adjacent now (q ∷ qs) s k e low =
    (λ i. is_lt (path_cmp (location (get_or-map (left now 0) (q ∷ qs) (k + 1) q e low i)) (location (get_or-map (left now 0) (q ∷ qs) k q e (omega arith) i))))
    ∙ s k q (omega arith) low

chain : (ws : List Put) (e : Put) → ((k : ℕ) → k + 1 < length ws → is_lt (path_cmp (location (get_or ws (k + 1) e)) (location (get_or ws k e))) ≡ false)
    → (i m j : ℕ) → j ≡ i + 1 + m → j < length ws → is_lt (path_cmp (location (get_or ws j e)) (location (get_or ws i e))) ≡ false
chain ws e h i zero j is low =
    let at : j ≡ i + 1 = omega arith in
    ap (λ n. is_lt (path_cmp (location (get_or ws n e)) (location (get_or ws i e)))) at ∙ h i (omega arith)
chain ws e h i (suc m) j is low =
    let at : j ≡ i + 1 + m + 1 = omega arith in
    ap (λ n. is_lt (path_cmp (location (get_or ws n e)) (location (get_or ws i e)))) at
    ∙ not_before (location (get_or ws i e)) (location (get_or ws (i + 1 + m) e)) (location (get_or ws (i + 1 + m + 1) e)) (chain ws e h i m (i + 1 + m) refl (omega arith)) (h (i + 1 + m) (omega arith))

pub ascend : (now : ℕ) (qs : List (Bor Write)) → IsSortedBy (λ a b. is_lt (path_cmp (location a.now) (location b.now))) qs → Ascend (map (left now 0) qs)
ascend now qs s i j e less low =
    let long = length-map qs (left now 0) in
    chain (map (left now 0) qs) e (λ k within. adjacent now qs s k e (omega arith)) i (j - (i + 1)) j (omega arith) low
