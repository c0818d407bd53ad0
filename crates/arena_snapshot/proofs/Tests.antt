-- What a test says.
use Rattle.std.proofs.Common.{◌≡◌, Bool, true, false, not, refl}
use Rattle.std.specs.Bool.{OnTrue, OnFalse}
use Rattle.std.proofs.lemmas.Bool.{false≢true}

pub on_true : (b : Bool) (P : Type 0) → (b ≡ true → P) → OnTrue b P
on_true true P h = h refl
on_true false P h = tt

pub on_false : (b : Bool) (P : Type 0) → (b ≡ false → P) → OnFalse b P
on_false true P h = tt
on_false false P h = h refl

pub from_true : (b : Bool) (P : Type 0) → OnTrue b P → b ≡ true → P
from_true true P h is = h
from_true false P h is = absurd (false≢true is)

-- of what is tested by its opposite
pub other_of : (b : Bool) (A P : Type 0) → OnFalse b (A → ⊥) → (P → A) → OnTrue (not b) (P → ⊥)
other_of true A P differs h = tt
other_of false A P differs h = λ p. differs (h p)

pub same_of : (b : Bool) (A P : Type 0) → OnTrue b A → (A → P) → OnFalse (not b) P
same_of true A P same h = h same
same_of false A P same h = tt

pub on_true_weaker : (b : Bool) {A P : Type 0} → (A → P) → OnTrue b A → OnTrue b P
on_true_weaker true f h = f h
on_true_weaker false f h = tt

pub on_false_weaker : (b : Bool) {A P : Type 0} → (A → P) → OnFalse b A → OnFalse b P
on_false_weaker true f h = tt
on_false_weaker false f h = f h
