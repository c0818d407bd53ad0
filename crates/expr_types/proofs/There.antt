-- The captures that an expression with a sort names are there.
use Rattle.std.proofs.Common.{◌≡◌, ◌⊎◌, inl, inr, ℕ, List, [], ◌++◌, Bool, true, false, ◌||◌, refl, sym, ap, ◌∙◌}
use Rattle.std.specs.Str.{bytes_eq}
use Rattle.std.proofs.lemmas.Slice.Eq.{bytes_eq-Decides}
use Rattle.std.proofs.lemmas.List.Folds.{list_any-append}
use Rattle.expr_parser.specs.Tree.{SyntaxTree, Trees}
use Rattle.expr_types.specs.declared.place.Place.{Place}
use Rattle.expr_types.specs.declared.sort.Sort.{Sort}
use Rattle.expr_types.specs.Names.{is_among}
use Rattle.expr_types.specs.HasSort as h
use Rattle.expr_types.specs.HasSort.{HasSort, AreValues}
use Rattle.expr_types.specs.Checked.{captures_in, captures_listed}

either : (a b : Bool) → (a || b) ≡ true → (a ≡ true) ⊎ (b ≡ true)
either true b e = inl refl
either false b e = inr e

only : (a : Bool) → (a || false) ≡ true → a ≡ true
only true e = refl
only false e = absurd cc

module _ (ns : List (List ℕ)) (f : List ℕ) where
  -- the name is among the names, if it is among the captures used
  abbrev There : List (List ℕ) → Type 0
  There used = is_among f used ≡ true → is_among f ns ≡ true

  both : (xs ys : List (List ℕ)) → There xs → There ys → is_among f (xs ++ ys) ≡ true → is_among f ns ≡ true
  both xs ys h g e = elim (either (is_among f xs) (is_among f ys) (sym (list_any-append (bytes_eq f) xs ys) ∙ e)) [
    | inl a ↦ h a
    | inr a ↦ g a
  ]

  front : (xs : List (List ℕ)) → There xs → is_among f (xs ++ []) ≡ true → is_among f ns ≡ true
  front xs h e = both xs [] h (λ n. absurd cc) e

  mutual
    pub there : {p : Place} {x : SyntaxTree} {s : Sort} → HasSort p ns x s → is_among f (captures_in x) ≡ true → is_among f ns ≡ true
    there h.number e = absurd cc
    there h.text e = absurd cc
    there h.truth e = absurd cc
    there h.falsehood e = absurd cc
    there h.null e = absurd cc
    there (h.capture {f = g} i) e = ap (λ n. is_among n ns) ((bytes_eq-Decides f g).0 (only (bytes_eq f g) e)) ∙ i
    there (h.now i) e = absurd cc
    there (h.auth i) e = absurd cc
    there (h.root i) e = absurd cc
    there (h.data_here i) e = absurd cc
    there (h.new_data i n) e = absurd cc
    there (h.query i n) e = absurd cc
    there (h.group d) e = there d e
    there (h.not d i) e = there d e
    there (h.negate d i) e = there d e
    there (h.operation {x = x} {y} d g i j) e = both (captures_in x) (captures_in y) (there d) (there g) e
    there (h.choice {c} {x} {y} d g k i j l) e = both (captures_in c ++ captures_in x) (captures_in y) (both (captures_in c) (captures_in x) (there d) (there g)) (there k) e
    there (h.auth_text i d) e = there d e
    there (h.auth_token i d) e = there d e
    there (h.claim d) e = there d e
    there (h.query_field i d) e = there d e
    there (h.length i d) e = there d e
    there (h.text_test {x} {v} i d g j) e = both (captures_in x) (captures_in v ++ []) (there d) (front (captures_in v) (there g)) e
    there (h.replace {x} {v} {w} i d g k j l) e = both (captures_in x) (captures_in v ++ (captures_in w ++ [])) (there d) (both (captures_in v) (captures_in w ++ []) (there g) (front (captures_in w) (there k))) e
    there (h.snapshot_test {x} i d) e = front (captures_in x) (there d) e
    there (h.has_child {x} {v} i d g j) e = both (captures_in x) (captures_in v ++ []) (there d) (front (captures_in v) (there g)) e
    there (h.has_children {x} {vs = vs} i d g) e = both (captures_in x) (captures_listed vs ++ []) (there d) (front (captures_listed vs) (all_there g)) e
    there (h.child {x} {v} i d g j) e = both (captures_in x) (captures_in v ++ []) (there d) (front (captures_in v) (there g)) e
    there (h.parent {x} i d) e = front (captures_in x) (there d) e

    all_there : {p : Place} {vs : Trees} → AreValues p ns vs → is_among f (captures_listed vs) ≡ true → is_among f ns ≡ true
    all_there h.no_value e = absurd cc
    all_there (h.value {v} {vs} d i g) e = both (captures_in v) (captures_listed vs) (there d) (all_there g) e
