-- What a walk reports in a place that its caller provides.
use Rattle.std.proofs.Common.{◌≡◌, Bool, true, Some, None, Option, is_none, sym, ◌∙◌, refl}
use Rattle.std.proofs.lemmas.Bool.{false≢true}

-- nothing is reported where all is well
pub none_told : {T : Type 0} (all : Bool) (o : Option T) → all ≡ is_none o → all ≡ true → o ≡ None
none_told all None told well = refl
none_told all (Some x) told well = absurd (false≢true (sym told ∙ well))
