-- The name that a fault is about stands in the expression.
use Rattle.std.proofs.Common.{◌≡◌, ℕ, List, ◌∷◌, Bool, true, false, refl, sym, subst, zero, arith}
use Rattle.std.specs.Prelude.{Contains, if◌then◌else◌}
use Rattle.std.proofs.lemmas.List.Elements.{Contains-append_right}
use Rattle.expr_parser.specs.Tree as t
use Rattle.expr_parser.specs.Tree.{SyntaxTree, Arguments}
use Rattle.expr_types.specs.declared.fault.TypeFault.{TypeFault}
use Rattle.expr_types.specs.declared.fault.TypeFault.TheVariants.{NotInProfile, TypeError, UnknownName, NoMemory}
use Rattle.expr_types.specs.declared.place.Place.{Place}
use Rattle.expr_types.specs.Names.{is_among, excluded_names, is_spelled}
use Rattle.expr_types.specs.Faults as faults
use Rattle.expr_types.specs.Faults.{parts, use_fault, own_fault, FirstFault, in_part, of_own, StandsIn}

-- the fault is about this name
abbrev About : TypeFault → List ℕ → Type 0
About (NotInProfile g) f = g ≡ f
About TypeError f = ⊥
About (UnknownName g) f = g ≡ f
About NoMemory f = ⊥

about_use : (g f : List ℕ) → About (use_fault g) f → g ≡ f
unfolding use_fault
about_use g f k = by (is_among g excluded_names) (is_spelled g) k
  where
    by : (b c : Bool) → About (if b then NotInProfile g else if c then TypeError else UnknownName g) f → g ≡ f
    by true c e = e
    by false true e = absurd e
    by false false e = e

own_named : (x : SyntaxTree) (f : List ℕ) → About (own_fault x) f → StandsIn f x
own_named (t.Variable g) f k = subst (λ n. StandsIn n (t.Variable g)) k faults.variable
own_named (t.Capture g) f k = faults.capture g (sym k)
own_named (t.Member x g) f k = subst (λ n. StandsIn n (t.Member x g)) (about_use g f k) faults.member
own_named (t.Call x g xs) f k = subst (λ n. StandsIn n (t.Call x g xs)) (about_use g f k) faults.call
own_named (t.Number n) f k = absurd k
own_named (t.Text s) f k = absurd k
own_named t.True f k = absurd k
own_named t.False f k = absurd k
own_named t.Null f k = absurd k
own_named (t.Group x) f k = absurd k
own_named (t.Not x) f k = absurd k
own_named (t.Negate x) f k = absurd k
own_named (t.Operation op x y) f k = absurd k
own_named (t.Choice c x y) f k = absurd k

Contains-here : (y : SyntaxTree) (ys : List SyntaxTree) → Contains (y ∷ ys) y
Contains-here y ys = (zero, grind (arith), refl)

module _ {p : Place} {ns : List (List ℕ)} where
  named : {x : SyntaxTree} {e : TypeFault} → FirstFault p ns x e → (f : List ℕ) → About e f → StandsIn f x
  named {x} (in_part before y after split a d) f k = faults.in_part {y = y} (subst (λ zs. Contains zs y) (sym split) (Contains-append_right before (y ∷ after) y (Contains-here y after))) (named d f k)
  named {x} (of_own a n) f k = own_named x f k

module _ (p : Place) (ns : List (List ℕ)) (x : SyntaxTree) (f : List ℕ) where
  pub unknown_named : FirstFault p ns x (UnknownName f) → StandsIn f x
  unknown_named d = named d f refl

  pub excluded_named : FirstFault p ns x (NotInProfile f) → StandsIn f x
  excluded_named d = named d f refl
