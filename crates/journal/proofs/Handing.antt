-- How the entries of one text are handed over behind those of another.
use Rattle.std.proofs.Common.{ℕ, List, ◌++◌, subst, append_assoc}
use Rattle.journal.specs.Sinks.{HandsOn}

-- one after the other
pub hands_on : {S : Type 0} (first second third : S → List (List ℕ) → Type 0) (old mid new : S) (xs ys : List (List ℕ)) → HandsOn first second old mid xs → HandsOn second third mid new ys → HandsOn first third old new (xs ++ ys)
hands_on first second third old mid new xs ys one other before had = subst (third new) (append_assoc before xs ys) (other (before ++ xs) (one before had))
