-- Lists of parts: their text, and their order.
use Rattle.std.proofs.Common.{◌≡◌, ℕ, zero, suc, ◌<◌, ◌==◌, true, false, min, List, [], ◌∷◌, ◌++◌, length, drop, map, sym, ap, ◌∙◌, refl, arith}
use Rattle.std.specs.Prelude.{codes, flat_map}
use Rattle.std.specs.declared.cmp.Ordering.TheVariants.{Less, Greater}
use Rattle.std.specs.Ordering.{nat_cmp}
use Rattle.std.proofs.lemmas.Bool.{false≢true}
use Rattle.std.proofs.lemmas.Bool.Decides.{nat_tests}
use Rattle.path_capture.specs.declared.pattern.Part.{Part}
use Rattle.path_capture.specs.Pattern.{part_of, part_text, pattern_cmp, printed_pattern}
use Rattle.path_capture.proofs.Signs.{not_zero}

-- the texts of parts, a slash before each
abbrev pub text_of_parts : List Part → List ℕ
text_of_parts parts = flat_map (λ part. codes "/" ++ part_text (part_of part)) parts

no_part : (part : Part) (parts : List Part) → (length (part ∷ parts) == 0) ≡ true → ⊥
no_part part parts h = false≢true (sym (not_zero (length (part ∷ parts)) (omega arith)) ∙ h)

mapped : (parts : List Part) → text_of_parts parts ≡ flat_map (λ key. codes "/" ++ key) (map part_text (map part_of parts))
mapped [] = refl
mapped (part ∷ parts) = ap (λ text. (codes "/" ++ part_text (part_of part)) ++ text) (mapped parts)

-- of some parts, that is the text of the pattern
pub printed_some : (parts : List Part) → (length parts == 0) ≡ false → text_of_parts parts ≡ printed_pattern (map part_of parts)
printed_some [] h = absurd (false≢true (sym h))
printed_some (part ∷ parts) h = mapped (part ∷ parts)

-- of none, it is a slash more
pub printed_none : (parts : List Part) → (length parts == 0) ≡ true → text_of_parts parts ++ codes "/" ≡ printed_pattern (map part_of parts)
printed_none [] h = refl
printed_none (part ∷ parts) h = absurd (no_part part parts h)

-- ---- the order

less : (m : ℕ) → 0 < m → nat_cmp 0 m ≡ Less
less m h = grind (arith, nat_tests)

greater : (m : ℕ) → 0 < m → nat_cmp m 0 ≡ Greater
greater m h = grind (arith, nat_tests)

one_less : (a b : ℕ) → nat_cmp (suc a) (suc b) ≡ nat_cmp a b
one_less a b = grind (arith, nat_tests)

-- where one of two patterns is a prefix of the other, their lengths decide
pub compared_by_length : (n : ℕ) (p q : List Part) → n ≡ min (length p) (length q) → nat_cmp (length p) (length q) ≡ pattern_cmp (map part_of (drop n p)) (map part_of (drop n q))
compared_by_length zero [] [] h = refl
compared_by_length zero [] (y ∷ q) h = less (length (y ∷ q)) (omega arith)
compared_by_length zero (x ∷ p) [] h = greater (length (x ∷ p)) (omega arith)
compared_by_length zero (x ∷ p) (y ∷ q) h = absurd (omega arith)
compared_by_length (suc n) [] q h = absurd (omega arith)
compared_by_length (suc n) (x ∷ p) [] h = absurd (omega arith)
compared_by_length (suc n) (x ∷ p) (y ∷ q) h = one_less (length p) (length q) ∙ compared_by_length n p q (omega arith)
