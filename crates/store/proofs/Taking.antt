-- One entry more of a replay.
use Rattle.std.specs.Prelude.{IsErrOf}
use Rattle.std.proofs.Common.{◌≡◌, ◌⊎◌, inl, inr, ℕ, List, [], ◌∷◌, ◌++◌, Some, Err, refl, subst, sym}
use Rattle.entries.proofs.Meanings.{means_one}
use Rattle.store.specs.declared.fault.ReplayFault.{ReplayFault}
use Rattle.store.specs.declared.fault.ReplayFault.TheVariants.{NoMemory, Unfit}
use Rattle.store.specs.Working.{LeadsOn}
use Rattle.entries.specs.Entry.{Meaning, Means}
use Rattle.store.specs.Replay.{Stage, empty, Follows, Replays}
use Rattle.store.proofs.Replays.{replays-append, replays-rest}

pub taken_on : (before : List (List ℕ)) (entry : List ℕ) (mid after : Stage) → Replays before empty mid → (meaning : Meaning) × Means entry meaning × Follows meaning mid after → Replays (before ++ entry ∷ []) empty after
taken_on before entry mid after replayed one = replays-append before (entry ∷ []) empty mid after replayed (one.0, after, one.1, one.2, refl)

pub refused_on : (before : List (List ℕ)) (entry : List ℕ) (mid : Stage) → Replays before empty mid → ((meaning : Meaning) (after : Stage) → Means entry meaning → Follows meaning mid after → ⊥) → (after : Stage) → Replays (before ++ entry ∷ []) empty after → ⊥
refused_on before entry mid replayed none after both = let rest = replays-rest before (entry ∷ []) empty mid after replayed both in none rest.0 rest.1 rest.2 rest.3

pub unfit_entry : (bytes : List ℕ) (read : Meaning) (stage stage_now : Stage) (fault : ReplayFault) → Means bytes read → stage_now ≡ stage → LeadsOn (Follows read stage_now) (Err fault) → fault ≡ Unfit → (meaning : Meaning) (after : Stage) → Means bytes meaning → Follows meaning stage after → ⊥
unfit_entry bytes read stage stage_now Unfit is same leads unfit = λ meaning after means follows.
    leads after (subst (λ s. Follows read s after) (sym same) (subst (λ m. Follows m stage after) (means_one bytes meaning read means is) follows))
unfit_entry bytes read stage stage_now NoMemory is same leads unfit = absurd (never unfit)
  where
    never : NoMemory ≡ Unfit → ⊥
    never e = cc

-- an error is this one
pub same_error : (a b : ReplayFault) → IsErrOf {T = Unit {0}} (Err a) b → a ≡ b
same_error a b same = cc

pub refused_by : (before : List (List ℕ)) (entry : List ℕ) (mid : Stage) (fault : ReplayFault) → Replays before empty mid → (IsErrOf {T = Unit {0}} (Err fault) Unfit → (meaning : Meaning) (after : Stage) → Means entry meaning → Follows meaning mid after → ⊥)
    → (Some fault ≡ Some NoMemory) ⊎ ((after : Stage) → Replays (before ++ entry ∷ []) empty after → ⊥)
refused_by before entry mid NoMemory replayed none = inl refl
refused_by before entry mid Unfit replayed none = inr (refused_on before entry mid replayed (none refl))
