-- The escapes of a quoted text are those that stand alone.
use Rattle.std.proofs.Common.{◌≡◌, ℕ, Bool, true, false, cond, List, [], ◌∷◌, Option, Some, None, refl}
use Rattle.std.specs.Prelude.{◌==◌}
use Rattle.expr_tokens.specs.Quoted.{letters, letter_in, coded, coded_at, then_rest, escape_at, meant, meant_behind, unquoted, escaped, escaped_code}

found : (q : ℕ) (o : Option ℕ) (rest : List ℕ) → meant o (unquoted q rest) ≡ meant_behind q (then_rest o rest)
found q None rest = refl
found q (Some c) rest = refl

four_digits : (q : ℕ) (behind : List ℕ) → escaped_code q behind ≡ meant_behind q (coded_at behind)
four_digits q [] = refl
four_digits q (a ∷ []) = refl
four_digits q (a ∷ b ∷ []) = refl
four_digits q (a ∷ b ∷ c ∷ []) = refl
four_digits q (a ∷ b ∷ c ∷ d ∷ rest) = found q (coded a b c d) rest

pub one_meaning : (q : ℕ) (behind : List ℕ) → escaped q behind ≡ meant_behind q (escape_at behind)
one_meaning q [] = refl
one_meaning q (e ∷ rest) =
    elim (e == 117) as (λ b. cond b (escaped_code q rest) (meant (letter_in letters e) (unquoted q rest)) ≡ meant_behind q (cond b (coded_at rest) (then_rest (letter_in letters e) rest))) [
      | true ↦ four_digits q rest
      | false ↦ found q (letter_in letters e) rest
    ]
