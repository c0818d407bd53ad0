-- Rules that are asked at one place after another.
use Rattle.std.proofs.Common.{◌≡◌, ℕ, ◌+◌, ◌<◌, Bool, true, false, cond, List, [], ◌∷◌, ◌++◌, map, drop, take, length, get_or, Some, None, Option, sym, ap, ◌∙◌, refl, append_assoc}
use Rattle.std.specs.Prelude.{filter_map, flat_map}
use Rattle.std.specs.List.{cons_option}
use Rattle.std.specs.Borrow.{Bor}
use Rattle.std.proofs.lemmas.List.{drop_more, take_more}
use Rattle.tree_model.specs.Path.{Path}
use Rattle.request_explainer.specs.declared.asked.AskedRule as code
use Rattle.request_explainer.specs.Asked.{AskedRule, asked_of, through}
use Rattle.request_explainer.specs.Working.{places_by}

pub one_place : (ps : List (Bor Path)) (i : ℕ) (p : Bor Path) → i < length ps → p ≡ get_or ps i p → places_by (drop i ps) ≡ p.now ∷ places_by (drop (i + 1) ps)
one_place ps i p l at = ap places_by (drop_more ps i p l) ∙ ap (λ (q : Bor Path). q.now ∷ places_by (drop (i + 1) ps)) (sym at)

module _ {A B : Type 0} (f : A → Option B) (test : B → Bool) where
  -- no rule stands at the first place
  pub none_there : (x : A) (xs : List A) → f x ≡ None → through test (filter_map f (x ∷ xs)) ≡ through test (filter_map f xs)
  none_there x xs h = ap (λ o. through test (cons_option o (filter_map f xs))) h

  -- the rule there is not the last
  pub not_last : (x : A) (xs : List A) (y : B) → f x ≡ Some y → test y ≡ false → through test (filter_map f (x ∷ xs)) ≡ y ∷ through test (filter_map f xs)
  not_last x xs y h g = ap (λ o. through test (cons_option o (filter_map f xs))) h ∙ ap (λ b. y ∷ cond b [] (through test (filter_map f xs))) g

  pub the_last : (x : A) (xs : List A) (y : B) → f x ≡ Some y → test y ≡ true → through test (filter_map f (x ∷ xs)) ≡ y ∷ []
  the_last x xs y h g = ap (λ o. through test (cons_option o (filter_map f xs))) h ∙ ap (λ b. y ∷ cond b [] (through test (filter_map f xs))) g

  -- what was listed, and what is still to be asked, is all that there is to list

  pub passed : (old : List B) (x : A) (xs ys : List A) (all : List B) → ys ≡ x ∷ xs → f x ≡ None → old ++ through test (filter_map f ys) ≡ all → old ++ through test (filter_map f xs) ≡ all
  passed old x xs ys all is none h = ap (λ bs. old ++ bs) (sym (ap (λ zs. through test (filter_map f zs)) is ∙ none_there x xs none)) ∙ h

  pub went_on : (old : List B) (x : A) (xs ys : List A) (y : B) (all : List B) → ys ≡ x ∷ xs → f x ≡ Some y → test y ≡ false → old ++ through test (filter_map f ys) ≡ all → (old ++ y ∷ []) ++ through test (filter_map f xs) ≡ all
  went_on old x xs ys y all is there further h = append_assoc old (y ∷ []) (through test (filter_map f xs)) ∙ ap (λ bs. old ++ bs) (sym (ap (λ zs. through test (filter_map f zs)) is ∙ not_last x xs y there further)) ∙ h

  pub ended : (old : List B) (x : A) (xs ys : List A) (y : B) (all : List B) → ys ≡ x ∷ xs → f x ≡ Some y → test y ≡ true → old ++ through test (filter_map f ys) ≡ all → old ++ y ∷ [] ≡ all
  ended old x xs ys y all is there done h = ap (λ bs. old ++ bs) (sym (ap (λ zs. through test (filter_map f zs)) is ∙ the_last x xs y there done)) ∙ h

nil_behind : {A : Type 0} (xs : List A) → xs ++ [] ≡ xs
nil_behind [] = refl
nil_behind (x ∷ xs) = ap (λ ys. x ∷ ys) (nil_behind xs)

pub pushed : (xs ys : List code.AskedRule) (x : code.AskedRule) → ys ≡ xs ++ x ∷ [] → map asked_of ys ≡ map asked_of xs ++ asked_of x ∷ []
pushed xs ys x all = ap (map asked_of) all ∙ behind xs
  where
    behind : (zs : List code.AskedRule) → map asked_of (zs ++ x ∷ []) ≡ map asked_of zs ++ asked_of x ∷ []
    behind [] = refl
    behind (z ∷ zs) = ap (λ rs. asked_of z ∷ rs) (behind zs)

-- the rules that are asked for a location more
pub next_location : {Y : Type 0} (at : Y → Path) (f : Path → List AskedRule) (ws : List Y) (i : ℕ) (w : Y) (old now next : List AskedRule) → i < length ws → w ≡ get_or ws i w → now ≡ old ++ flat_map f (map at (take i ws)) → next ≡ now ++ f (at w) → next ≡ old ++ flat_map f (map at (take (i + 1) ws))
next_location {Y} at f ws i w old now next l is h g =
    g ∙ ap (λ rs. rs ++ f (at w)) h ∙ append_assoc old (flat_map f (map at (take i ws))) (f (at w))
    ∙ ap (λ rs. old ++ rs) (sym (behind (take i ws)) ∙ ap (λ ys. flat_map f (map at ys)) (sym (take_more ws i w l ∙ ap (λ (y : Y). take i ws ++ y ∷ []) (sym is))))
  where
    behind : (ys : List Y) → flat_map f (map at (ys ++ w ∷ [])) ≡ flat_map f (map at ys) ++ f (at w)
    behind [] = nil_behind (f (at w))
    behind (y ∷ ys) = ap (λ rs. f (at y) ++ rs) (behind ys) ∙ sym (append_assoc (f (at y)) (flat_map f (map at ys)) (f (at w)))
