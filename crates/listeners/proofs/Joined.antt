-- The keys of a path, joined by slashes, one key after another.
use Rattle.std.proofs.Common.{◌≡◌, ℕ, zero, suc, ◌+◌, ◌<◌, ◌≤◌, [], ◌∷◌, ◌++◌, length, take, get_or, sym, ap, ◌∙◌, refl, append_assoc, arith}
use Rattle.std.proofs.lemmas.List.{take_more}
use Rattle.tree_model.specs.Key.{Key}
use Rattle.tree_model.specs.Path.{Path}
use Rattle.listeners.specs.Query.{joined}

joined_push : (k : Key) (ks : Path) (l : Key) → joined ((k ∷ ks) ++ l ∷ []) ≡ joined (k ∷ ks) ++ 47 ∷ l
joined_push k [] l = refl
joined_push k (m ∷ ks) l = ap (λ text. k ++ 47 ∷ text) (joined_push m ks l) ∙ sym (append_assoc k (47 ∷ joined (m ∷ ks)) (47 ∷ l))

pub joined_first : (ks : Path) (i : ℕ) (k : Key) → i ≤ 0 → i < length ks → k ≡ get_or ks i k → joined (take (i + 1) ks) ≡ joined (take i ks) ++ k
joined_first [] i k none h at = absurd (omega arith)
joined_first (l ∷ ks) zero k none h at = sym at
joined_first (l ∷ ks) (suc i) k none h at = absurd (omega arith)

pub joined_more : (ks : Path) (i : ℕ) (k : Key) → 0 < i → i < length ks → k ≡ get_or ks i k → joined (take (i + 1) ks) ≡ joined (take i ks) ++ 47 ∷ k
joined_more [] i k some h at = absurd (omega arith)
joined_more (l ∷ ks) zero k some h at = absurd (omega arith)
joined_more (l ∷ ks) (suc i) k some h at =
    ap joined (take_more (l ∷ ks) (suc i) k h ∙ ap (λ m. take (suc i) (l ∷ ks) ++ m ∷ []) (sym at))
    ∙ joined_push l (take i ks) k
