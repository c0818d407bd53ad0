-- A prefix of a path, key by key.
use Rattle.std.proofs.Common.{◌≡◌, ◌<◌, ◌≤◌, true, false, cond, ◌&&◌, [], ◌∷◌, length, None, is_some, refl, arith}
use Rattle.std.specs.List.{list_all, zip}
use Rattle.std.specs.Str.{bytes_eq}
use Rattle.tree_model.specs.Path.{Path, strip_prefix, is_prefix}

-- a path that is not longer is a prefix where each of its keys is the one beside it
pub is_prefix_by_keys : (p q : Path) → length p ≤ length q → list_all (λ e. bytes_eq e.0 e.1) (zip p q) ≡ is_prefix p q
is_prefix_by_keys [] q h = refl
is_prefix_by_keys (k ∷ p) [] h = absurd (omega arith)
is_prefix_by_keys (k ∷ p) (l ∷ q) h =
    elim (bytes_eq k l) as (λ b. (b && list_all (λ e. bytes_eq e.0 e.1) (zip p q)) ≡ is_some (cond b (strip_prefix p q) None)) [
      | true ↦ is_prefix_by_keys p q (omega arith)
      | false ↦ refl
    ]

-- a longer path is no prefix
pub longer_is_no_prefix : (p q : Path) → length q < length p → is_prefix p q ≡ false
longer_is_no_prefix [] q h = absurd (omega arith)
longer_is_no_prefix (k ∷ p) [] h = refl
longer_is_no_prefix (k ∷ p) (l ∷ q) h =
    elim (bytes_eq k l) as (λ b. is_some (cond b (strip_prefix p q) None) ≡ false) [
      | true ↦ longer_is_no_prefix p q (omega arith)
      | false ↦ refl
    ]
