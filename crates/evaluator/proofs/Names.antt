-- Names that are not among the known ones.
use Rattle.std.proofs.Common.{◌≡◌, ℕ, List, Bool, true, false, cond, None, refl, sym, ◌∙◌}
use Rattle.std.specs.Prelude.{codes}
use Rattle.std.specs.Str.{bytes_eq}
use Rattle.tree_model.proofs.Choices.{not_true}
use Rattle.tree_model.proofs.Orders.{same_key}
use Rattle.evaluator.specs.Asked.{Asked}
use Rattle.evaluator.specs.Members.{query_limit}

pub unlike : (a f : List ℕ) → (f ≡ a → ⊥) → bytes_eq a f ≡ false
unlike a f n = not_true (bytes_eq a f) (λ h. n (sym (same_key a f h)))

pub cond_false : {X : Type 0} (b : Bool) (x y : X) → b ≡ false → cond b x y ≡ y
cond_false true x y h = cc
cond_false false x y h = refl

pub no_limit : (f : List ℕ) (a : Asked) → (f ≡ codes "limitToFirst" → ⊥) → (f ≡ codes "limitToLast" → ⊥) → query_limit f a ≡ None
unfolding query_limit
no_limit f a n m = cond_false _ _ _ (unlike (codes "limitToFirst") f n) ∙ cond_false _ _ _ (unlike (codes "limitToLast") f m)
