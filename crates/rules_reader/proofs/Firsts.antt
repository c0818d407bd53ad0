-- The first place where a test holds.
use Rattle.std.proofs.Common.{◌≡◌, ℕ, zero, suc, ◌+◌, ◌<◌, Bool, true, false, cond, Option, Some, None, inl, inr, ◌⊎◌, refl, sym, ap, ◌∙◌, arith, add-one}
use Rattle.std.proofs.lemmas.Bool.{cases_lt}
use Rattle.rules_reader.specs.Working.Front.{first, first_or}

pub first_more : (test : ℕ → Bool) (n : ℕ) → first test n ≡ None → test n ≡ false → first test (n + 1) ≡ None
first_more test n none here = ap (first test) (add-one n) ∙ ap (λ (o : Option ℕ). first_or o (test n) n) none ∙ ap (λ (b : Bool). cond b (Some n) None) here

pub first_found : (test : ℕ → Bool) (n i : ℕ) → i < n → first test i ≡ None → test i ≡ true → first test n ≡ Some i
first_found test zero i lt none here = absurd (omega arith)
first_found test (suc n) i lt none here = elim (cases_lt i n) [
  | inl below ↦ ap (λ (o : Option ℕ). first_or o (test n) n) (first_found test n i below none here)
  | inr above ↦
      let e : n ≡ i = omega arith in
      ap (λ (o : Option ℕ). first_or o (test n) n) (ap (first test) e ∙ none) ∙ ap (λ (b : Bool). cond b (Some n) None) (ap test e ∙ here) ∙ ap (λ (k : ℕ). Some k) e
]

or_none : (o : Option ℕ) (here : Bool) (n : ℕ) → first_or o here n ≡ None → (o ≡ None) × (here ≡ false)
or_none (Some i) here n e = absurd cc
or_none None true n e = absurd cc
or_none None false n e = (refl, refl)

or_some : (o : Option ℕ) (here : Bool) (n i : ℕ) → first_or o here n ≡ Some i → (o ≡ Some i) ⊎ ((o ≡ None) × (here ≡ true) × (n ≡ i))
or_some (Some k) here n i e = inl e
or_some None true n i e = inr (refl, refl, cc)
or_some None false n i e = absurd cc

pub first_none : (test : ℕ → Bool) (n : ℕ) → first test n ≡ None → (k : ℕ) → k < n → test k ≡ false
first_none test zero e k lt = absurd (omega arith)
first_none test (suc n) e k lt =
    let p = or_none (first test n) (test n) n e in
    elim (cases_lt k n) [
      | inl below ↦ first_none test n p.0 k below
      | inr above ↦ let same : k ≡ n = omega arith in ap test same ∙ p.1
    ]

pub record IsFirst (test : ℕ → Bool) (n i : ℕ) : Type 0 where
  pub within : i < n
  pub here : test i ≡ true
  pub none : first test i ≡ None

pub first_some : (test : ℕ → Bool) (n i : ℕ) → first test n ≡ Some i → IsFirst test n i
first_some test zero i e = absurd cc
first_some test (suc n) i e = elim (or_some (first test n) (test n) n i e) [
  | inl same ↦ let r = first_some test n i same in record { within = omega arith; here = r.here; none = r.none }
  | inr h ↦ record { within = omega arith; here = ap test (sym h.2) ∙ h.1; none = ap (first test) (sym h.2) ∙ h.0 }
]

pub first_nothing : (test : ℕ → Bool) (n : ℕ) → ((k : ℕ) → k < n → test k ≡ false) → first test n ≡ None
first_nothing test zero h = refl
first_nothing test (suc n) h =
    ap (λ (o : Option ℕ). first_or o (test n) n) (first_nothing test n (λ k lt. h k (omega arith))) ∙ ap (λ (b : Bool). cond b (Some n) None) (h n (omega arith))

pub first_is : (test : ℕ → Bool) (n i : ℕ) → i < n → test i ≡ true → ((k : ℕ) → k < i → test k ≡ false) → first test n ≡ Some i
first_is test n i lt here below = first_found test n i lt (first_nothing test i below) here
