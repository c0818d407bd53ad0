-- How a run of calls goes on.
use Rattle.std.proofs.Common.{inl, inr, ⊎_elim, ℕ, List, arith}
use Rattle.disk.specs.Disk.{TimeGoesOn, AtAnyMoment}

module _ {D : Type 0} (moment : D → ℕ) (left_since : D → ℕ → List ℕ → Type 0) where
  -- before the first call
  pub begins : (old : D) (property : List ℕ → Type 0) → ((left : List ℕ) → left_since old (moment old) left → property left) → AtAnyMoment moment left_since old old property
  begins old property here = record { later = omega arith; each = here; earlier = λ t left le since. inl since }

  -- one call more, or several, after which a crash leaves what has the property
  pub goes_on : (old between new : D) (property may_leave : List ℕ → Type 0) → AtAnyMoment moment left_since old between property
      → TimeGoesOn (moment between) (moment new) (left_since between) (left_since new) may_leave → ((left : List ℕ) → may_leave left → property left) → AtAnyMoment moment left_since old new property
  goes_on old between new property may_leave so_far time here = record {
    later = omega (arith, so_far.later, time.later);
    each = λ left since. ⊎_elim (so_far.each left) (here left) (time.added (moment old) left so_far.later since);
    earlier = λ t left le since. ⊎_elim (so_far.earlier t left le) (λ now. inr (here left now)) (time.added t left (omega (arith, le, so_far.later)) since);
  }

  -- two runs, one behind the other
  pub joined : (old between new : D) (property : List ℕ → Type 0) → AtAnyMoment moment left_since old between property → AtAnyMoment moment left_since between new property → AtAnyMoment moment left_since old new property
  joined old between new property first second = record {
    later = omega (arith, first.later, second.later);
    each = λ left since. ⊎_elim (first.each left) (λ has. has) (second.earlier (moment old) left first.later since);
    earlier = λ t left le since. ⊎_elim (first.earlier t left le) (λ has. inr has) (second.earlier t left (omega (arith, le, first.later)) since);
  }
