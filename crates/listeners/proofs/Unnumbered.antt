-- Keys that begin with no digit are no numbers.
use Rattle.std.proofs.Common.{◌≡◌, ◌≢◌, ℕ, ◌<◌, ◌≤◌, true, false, nat_le, List, [], ◌∷◌, length, codes, None, option_map, Less, Equal, Greater, is_lt, nat_cmp, true≢false, ⊎_elim, sym, ap, ◌∙◌, refl, arith}
use Rattle.std.specs.Cmp.Lexicographic.{slice_cmp}
use Rattle.std.specs.Cmp.{tied_itself}
use Rattle.std.specs.Ordering.{ordering_then}
use Rattle.std.specs.List.{list_all}
use Rattle.std.proofs.lemmas.Bool.{and_left, and_right, le-ltb, lt-ltb, lt-leb, ne_eqb, eq-eqb, cond-true, cond-false, cases_lt, cases_eq}
use Rattle.std.proofs.lemmas.Cmp.{nat_cmp_total}
use Rattle.tree_model.specs.Key.{Key, key_cmp}
use Rattle.listeners.specs.Order.{is_digit, natural_of, negated, integer_of, if_small, number_of}
use Rattle.std.specs.Prelude.{option_and_then}

-- ---- bytes

pub low_byte : (b : ℕ) → b < 48 → is_digit b ≡ false
low_byte b low = and_left _ _ (lt-leb 48 b low)

pub high_byte : (b : ℕ) → 57 < b → is_digit b ≡ false
high_byte b high = and_right _ _ (lt-leb b 57 high)

nat_less : (x y : ℕ) → x < y → nat_cmp x y ≡ Less
nat_less x y less = cond-true _ _ _ (lt-ltb x y less)

nat_greater : (x y : ℕ) → y < x → nat_cmp x y ≡ Greater
nat_greater x y more = cond-false _ _ _ (le-ltb x y (omega arith)) ∙ cond-false _ _ _ (ne_eqb x y (λ same. omega arith))

nat_same : (x y : ℕ) → x ≡ y → nat_cmp x y ≡ Equal
nat_same x y same = ap (nat_cmp x) (sym same) ∙ tied_itself nat_cmp_total x

-- ---- texts that begin with no digit

natural_none : (b : ℕ) (bs : List ℕ) → is_digit b ≡ false → natural_of (b ∷ bs) ≡ None
natural_none b bs other = cond-false _ _ _ (and_right (nat_le 1 (length (b ∷ bs))) _ (and_left (is_digit b) (list_all is_digit bs) other))

number_none : (k : Key) → integer_of k ≡ None → number_of k ≡ None
number_none k none = ap (option_and_then if_small) none

-- neither a minus nor a digit
other_none : (b : ℕ) (bs : List ℕ) → b ≢ 45 → is_digit b ≡ false → number_of (b ∷ bs) ≡ None
other_none b bs no_minus no_digit = number_none (b ∷ bs) (cond-false _ _ _ (ne_eqb b 45 no_minus) ∙ ap (option_map _) (natural_none b bs no_digit))

-- a minus, and no digit behind it
minus_none : (b : ℕ) (bs : List ℕ) → b ≡ 45 → natural_of bs ≡ None → number_of (b ∷ bs) ≡ None
minus_none b bs minus none = number_none (b ∷ bs) (cond-true _ _ _ (eq-eqb b 45 minus) ∙ ap (option_map negated) none)

-- ---- before all numbers, between those with a minus and those without, and behind all

module _ (b : ℕ) (bs : List ℕ) (l : ℕ) (ls : List ℕ) where
  cmp_less : b < l → key_cmp (b ∷ bs) (l ∷ ls) ≡ Less
  cmp_less less = ap (λ o. ordering_then o (slice_cmp nat_cmp bs ls)) (nat_less b l less)

  cmp_greater : l < b → key_cmp (b ∷ bs) (l ∷ ls) ≡ Greater
  cmp_greater more = ap (λ o. ordering_then o (slice_cmp nat_cmp bs ls)) (nat_greater b l more)

  cmp_same : b ≡ l → key_cmp (b ∷ bs) (l ∷ ls) ≡ key_cmp bs ls
  cmp_same same = ap (λ o. ordering_then o (slice_cmp nat_cmp bs ls)) (nat_same b l same)

  -- a first byte is no greater, and one of no lesser text no less
  first_le : is_lt (key_cmp (b ∷ bs) (l ∷ ls)) ≡ true → b ≤ l
  first_le h = ⊎_elim (λ more. absurd (true≢false (sym h ∙ ap is_lt (cmp_greater more)))) (λ le. le) (cases_lt l b)

  first_ge : is_lt (key_cmp (b ∷ bs) (l ∷ ls)) ≡ false → l ≤ b
  first_ge h = ⊎_elim (λ less. absurd (true≢false (sym (ap is_lt (cmp_less less)) ∙ h))) (λ ge. ge) (cases_lt b l)

not_before_nothing : (bs : List ℕ) → is_lt (key_cmp bs []) ≡ false
not_before_nothing [] = refl
not_before_nothing (b ∷ bs) = refl

-- before a digit alone
below_digit : (b : ℕ) (bs : List ℕ) → is_lt (key_cmp (b ∷ bs) (48 ∷ [])) ≡ true → b < 48
below_digit b bs h = ⊎_elim
    (λ less. less)
    (λ ge.
    let same : b ≡ 48 = (let le = first_le b bs 48 [] h in omega arith) in
    absurd (true≢false (sym h ∙ ap is_lt (cmp_same b bs 48 [] same) ∙ not_before_nothing bs)))
    (cases_lt b 48)

natural_below : (bs : List ℕ) → is_lt (key_cmp bs (48 ∷ [])) ≡ true → natural_of bs ≡ None
natural_below [] h = refl
natural_below (b ∷ bs) h = natural_none b bs (low_byte b (below_digit b bs h))

natural_above : (bs : List ℕ) → is_lt (key_cmp bs (58 ∷ [])) ≡ false → natural_of bs ≡ None
natural_above [] h = refl
natural_above (b ∷ bs) h = natural_none b bs (high_byte b (let ge = first_ge b bs 58 [] h in omega arith))

pub before_negatives : (k : Key) → is_lt (key_cmp k (codes "-0")) ≡ true → number_of k ≡ None
before_negatives [] h = refl
before_negatives (b ∷ bs) h = ⊎_elim
    (λ minus. minus_none b bs minus (natural_below bs (sym (ap is_lt (cmp_same b bs 45 (48 ∷ []) minus)) ∙ h)))
    (λ other. other_none b bs other (low_byte b (let le = first_le b bs 45 (48 ∷ []) h in omega arith)))
    (cases_eq b 45)

pub between_numbers : (k : Key) → is_lt (key_cmp k (codes "-:")) ≡ false → is_lt (key_cmp k (codes "0")) ≡ true → number_of k ≡ None
between_numbers [] h g = refl
between_numbers (b ∷ bs) h g = ⊎_elim
    (λ minus. minus_none b bs minus (natural_above bs (sym (ap is_lt (cmp_same b bs 45 (58 ∷ []) minus)) ∙ h)))
    (λ other. other_none b bs other (low_byte b (below_digit b bs g)))
    (cases_eq b 45)

pub behind_naturals : (k : Key) → is_lt (key_cmp k (codes ":")) ≡ false → number_of k ≡ None
behind_naturals [] h = refl
behind_naturals (b ∷ bs) h =
    let ge = first_ge b bs 58 [] h in
    other_none b bs (λ minus. omega arith) (high_byte b (omega arith))
