-- A walk down a path, key by key.
use Rattle.std.proofs.Common.{◌≡◌, ◌≢◌, ℕ, zero, suc, ◌+◌, ◌≤◌, ◌<◌, List, [], ◌∷◌, length, take, drop, get_or, Some, None, sym, ap, ◌∙◌, refl, arith}
use Rattle.std.proofs.lemmas.List.{take-append-drop}
use Rattle.tree_model.specs.Key.{Key}
use Rattle.tree_model.specs.Path.{Path}
use Rattle.tree_model.specs.PathMap.{sub}
use Rattle.tree_model.specs.Tree.{Tree, null, non_null}
use Rattle.tree_model.proofs.Existence.{non_null-null, non_null-some}
use Rattle.tree_model.proofs.Lookups.{sub-sub, sub-null}
use Rattle.json_tree.proofs.Building.{tree_from_some, null_from_none}
use Rattle.json_tree.proofs.Lists.{take_next}

module _ (t v : Tree) (p : Path) (i : ℕ) (k : Key) (low : i < length p) (at : k ≡ get_or p i k) (here : v ≡ sub t (take i p)) where
  further : sub v (k ∷ []) ≡ sub t (take (i + 1) p)
  further = ap (λ u. sub u (k ∷ [])) here ∙ sub-sub t (take i p) (k ∷ []) ∙ ap (sub t) (sym (take_next p i k low at))

  pub goes_on : (u : Tree) → Some u ≡ non_null (sub v (k ∷ [])) → u ≡ sub t (take (i + 1) p)
  goes_on u is = (tree_from_some (sub v (k ∷ [])) u is).0 ∙ further

  pub ends : None ≡ non_null (sub v (k ∷ [])) → None ≡ non_null (sub t p)
  ends none =
      let gone : sub t (take (i + 1) p) ≡ null = sym further ∙ null_from_none (sub v (k ∷ [])) none in
      sym (
      ap (λ q. non_null (sub t q)) (sym (take-append-drop (i + 1) p))
      ∙ ap non_null (sym (sub-sub t (take (i + 1) p) (drop (i + 1) p)) ∙ ap (λ u. sub u (drop (i + 1) p)) gone ∙ sub-null (drop (i + 1) p))
      ∙ non_null-null)

pub arrived : (t v : Tree) (p : Path) (i : ℕ) → take i p ≡ p → v ≡ sub t (take i p) → v ≢ null → Some v ≡ non_null (sub t p)
arrived t v p i all here some = sym (ap (λ q. non_null (sub t q)) (sym all) ∙ ap non_null (sym here) ∙ non_null-some v some)

pub all_of : {X : Type 0} (n : ℕ) (xs : List X) → length xs ≤ n → take n xs ≡ xs
all_of zero [] h = refl
all_of zero (x ∷ xs) h = absurd (omega arith)
all_of (suc n) [] h = refl
all_of (suc n) (x ∷ xs) h = ap (λ ys. x ∷ ys) (all_of n xs (omega arith))
