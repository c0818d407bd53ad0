-- Where a text stands inside another.
use Rattle.std.proofs.Common.{◌≡◌, ◌↔◌, ℕ, List, [], ◌∷◌, ◌++◌, length, drop, Some, None, Bool, true, false, ◌||◌, refl, sym, ◌∙◌, ap, append_assoc}
use Rattle.std.specs.Prelude.{nat_eq}
use Rattle.std.specs.List.{starts_with}
use Rattle.std.specs.Bool.{MatchBool}
use Rattle.std.specs.Cmp.{both_ways}
use Rattle.std.specs.Str.Iter.{HasSubslice}
use Rattle.std.specs.Str.Pattern.{HasMatch, FindsText}
use Rattle.std.proofs.lemmas.Bool.Decides.{Decides-eqb}
use Rattle.std.proofs.lemmas.Slice.Eq.{starts_is}
use Rattle.std.proofs.lemmas.Str.Pattern.{contains_text}
use Rattle.tree_model.proofs.Choices.{or_right}
use Rattle.evaluator.specs.Value.{truth, words}
use Rattle.evaluator.specs.Texts.{is_inside, contains}

pub starts : (s part : List ℕ) → (starts_with nat_eq s part ≡ true → s ≡ part ++ drop (length part) s) × ((rest : List ℕ) → s ≡ part ++ rest → starts_with nat_eq s part ≡ true)
starts s part = starts_is Decides-eqb s part (starts_with nat_eq s part) refl

or_left : (a b : Bool) → a ≡ true → (a || b) ≡ true
or_left true b h = refl
or_left false b h = cc

pub stands : (part s : List ℕ) → is_inside part s ≡ true → HasSubslice s part
stands part [] h = ([], drop (length part) [], (starts [] part).0 h)
stands part (b ∷ s) h =
    elim (starts_with nat_eq (b ∷ s) part) as (λ x. starts_with nat_eq (b ∷ s) part ≡ x → (x || is_inside part s) ≡ true → HasSubslice (b ∷ s) part) [
      | true ↦ λ e _. ([], drop (length part) (b ∷ s), (starts (b ∷ s) part).0 e)
      | false ↦ λ _ g. let below = stands part s g in (b ∷ below.0, below.1, ap (λ (xs : List ℕ). b ∷ xs) below.2)
    ] refl h

pub is_found : (part front back : List ℕ) → is_inside part (front ++ (part ++ back)) ≡ true
is_found part [] back = here (part ++ back) ((starts (part ++ back) part).1 back refl)
  where
    here : (s : List ℕ) → starts_with nat_eq s part ≡ true → is_inside part s ≡ true
    here [] h = h
    here (b ∷ s) h = or_left _ _ h
is_found part (b ∷ front) back = or_right (starts_with nat_eq (b ∷ (front ++ (part ++ back))) part) _ (is_found part front back)

pub is_inside_where : (r : Bool) (part s : List ℕ) → MatchBool r (HasMatch (FindsText part) s) (FindsText part s None) → r ≡ is_inside part s
is_inside_where r part s h =
    let is = contains_text r part s h in
    both_ways r (is_inside part s)
    (λ e. let at = is.0 e in ap (is_inside part) at.2 ∙ is_found part at.0 at.1)
    (λ e. is.1 (stands part s e))

-- a text contains a part exactly where it is the part between two texts
truth_of : (b : Bool) → Some (truth b) ≡ Some (truth true) → b ≡ true
truth_of b e = cc

pub contains_is : (s part : List ℕ) → (contains (words s) (words part) ≡ Some (truth true)) ↔ ((front : List ℕ) × (back : List ℕ) × (s ≡ front ++ part ++ back))
contains_is s part = (
  λ e. let at = stands part s (truth_of (is_inside part s) e) in (at.0, at.1, at.2 ∙ sym (append_assoc at.0 part at.1)),
  λ at. ap (λ b. Some (truth b)) (ap (is_inside part) (at.2 ∙ append_assoc at.0 part at.1) ∙ is_found part at.0 at.1),
)
