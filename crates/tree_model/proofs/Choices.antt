-- Tests and options: small facts that the other lemmas share.
use Rattle.std.proofs.Common.{◌≡◌, Bool, true, false, not, ◌&&◌, ◌||◌, Some, None, Option, IsSome, sym, ◌∙◌, refl}
use Rattle.std.proofs.lemmas.Bool.{false≢true}

pub true_is_not_false : (b : Bool) → b ≡ true → b ≡ false → ⊥
true_is_not_false b h g = false≢true (sym g ∙ h)

pub not_true : (b : Bool) → (b ≡ true → ⊥) → b ≡ false
not_true true h = absurd (h refl)
not_true false h = refl

pub both_so : (a b : Bool) → a ≡ true → b ≡ true → (a && b) ≡ true
both_so true b h g = g
both_so false b h g = absurd (false≢true h)

pub or_right : (a b : Bool) → b ≡ true → (a || b) ≡ true
or_right true b h = refl
or_right false b h = h

pub or-false : (b : Bool) → (b || false) ≡ b
or-false true = refl
or-false false = refl

pub neither : (a b : Bool) → (a || b) ≡ false → (a ≡ false) × (b ≡ false)
neither true b h = absurd (false≢true (sym h))
neither false b h = (refl, h)

pub neither_not : (a b : Bool) → (not a && not b) ≡ true → (a ≡ false) × (b ≡ false)
neither_not true b h = absurd (false≢true h)
neither_not false true h = absurd (false≢true h)
neither_not false false h = (refl, refl)

pub none_is_not_some : {X : Type 0} (o : Option X) → o ≡ None → IsSome o → ⊥
none_is_not_some None e h = false≢true h
none_is_not_some (Some x) e h = cc

pub some_value : {X : Type 0} (o : Option X) → IsSome o → (x : X) × (o ≡ Some x)
some_value None h = absurd (false≢true h)
some_value (Some x) h = (x, refl)

-- the first of two options that has a value
abbrev pub or_else : {X : Type 0} → Option X → Option X → Option X
or_else None b = b
or_else (Some x) b = Some x

pub or_else-None : {X : Type 0} (o : Option X) → or_else o None ≡ o
or_else-None None = refl
or_else-None (Some x) = refl
