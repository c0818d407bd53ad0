-- Outside of the stretches of keys that begin with digits no key is a number.
use Rattle.std.proofs.Common.{◌≡◌, ℕ, ◌≤◌, Bool, false, not, ◌&&◌, nat_le, nat_lt, codes, get_or, List, Less, is_lt, ⊎_elim, ap, arith}
use Rattle.std.proofs.lemmas.Bool.{and_parts, and_cases, not-true, ltb-false, leb-false, cases_lt}
use Rattle.tree_model.specs.Key.{Key, key_cmp}
use Rattle.tree_model.proofs.Orders.{keys_total}
use Rattle.listeners.specs.Selection.{Child}
use Rattle.listeners.specs.declared.search.Side.TheVariants.{Before}
use Rattle.listeners.specs.declared.digits.Digits.{Digits}
use Rattle.listeners.specs.Working.Reach.{is_on, IsCount, AreDigits}
use Rattle.listeners.proofs.Searching.{less_of, count_le}
use Rattle.listeners.proofs.Unnumbered.{before_negatives, between_numbers, behind_naturals}

-- ---- which indices are outside of both stretches

module _ (digits : Digits) (i : ℕ) where
  abbrev in_negatives : Bool
  in_negatives = nat_le digits.negatives i && nat_lt i digits.negatives_to

  abbrev in_naturals : Bool
  in_naturals = nat_le digits.naturals i && nat_lt i digits.naturals_to

-- ---- no key outside is a number

pub count_order : (cs : List Child) (k l : Key) (m n : ℕ) → IsCount cs (is_on Before k) m → IsCount cs (is_on Before l) n → key_cmp k l ≡ Less → m ≤ n
count_order cs k l m n few many less = count_le cs (is_on Before k) (is_on Before l) m n few many (λ x on. ap is_lt (keys_total.trans x k l (less_of (key_cmp x k) on) less))

pub no_numbers : (cs : List Child) (digits : Digits) → IsCount cs (is_on Before (codes "-0")) digits.negatives → IsCount cs (is_on Before (codes "-:")) digits.negatives_to
    → IsCount cs (is_on Before (codes "0")) digits.naturals → IsCount cs (is_on Before (codes ":")) digits.naturals_to → AreDigits cs digits
no_numbers cs digits first first_end second second_end i d within text = ⊎_elim
    (λ low. before_negatives (get_or cs i d).0 (first.before i d low))
    (λ past. ⊎_elim
    (λ low. between_numbers (get_or cs i d).0 (first_end.behind i d (not_in_first past) within) (second.before i d low))
    (λ far. behind_naturals (get_or cs i d).0 (second_end.behind i d (not_in_second far) within))
    (cases_lt i digits.naturals))
    (cases_lt i digits.negatives)
  where
    parts : (in_negatives digits i ≡ false) × (in_naturals digits i ≡ false)
    parts =
        let both = and_parts (not (in_negatives digits i)) (not (in_naturals digits i)) text in
        (not-true (in_negatives digits i) both.0, not-true (in_naturals digits i) both.1)

    not_in_first : digits.negatives ≤ i → digits.negatives_to ≤ i
    not_in_first past = ⊎_elim
        (λ before. let low = leb-false digits.negatives i before in absurd (omega arith))
        (λ behind. ltb-false i digits.negatives_to behind)
        (and_cases (nat_le digits.negatives i) (nat_lt i digits.negatives_to) parts.0)

    not_in_second : digits.naturals ≤ i → digits.naturals_to ≤ i
    not_in_second past = ⊎_elim
        (λ before. let low = leb-false digits.naturals i before in absurd (omega arith))
        (λ behind. ltb-false i digits.naturals_to behind)
        (and_cases (nat_le digits.naturals i) (nat_lt i digits.naturals_to) parts.1)
