-- What a crash may leave of a disk that keeps all that its file has been.
use Rattle.std.specs.Prelude.{◌≡◌, ◌⊎◌, ℕ, List, [], ◌∷◌, length, drop, Vec}
use Rattle.std.proofs.Common.{inl, inr}
use Rattle.std.specs.declared.alloc.Global.{Global}

-- one of these files has these bytes
abbrev pub HasOne : List (Vec ℕ Global) → List ℕ → Type 0
HasOne [] bytes = ⊥
HasOne (file ∷ files) bytes = (bytes ≡ file.items) ⊎ HasOne files bytes

-- a crash leaves what a read returns, or one of the others
abbrev pub IsOutcome : List ℕ → List (Vec ℕ Global) → List ℕ → Type 0
IsOutcome bytes others left = (left ≡ bytes) ⊎ HasOne others left

-- a crash since that moment leaves what it may leave now, or what it might have left meanwhile
abbrev pub IsOutcomeSince : List (Vec ℕ Global) → List ℕ → List (Vec ℕ Global) → ℕ → List ℕ → Type 0
IsOutcomeSince past bytes others t left = IsOutcome bytes others left ⊎ HasOne (drop t past) left

no_one_past_the_end : (files : List (Vec ℕ Global)) (bytes : List ℕ) → HasOne (drop (length files) files) bytes → ⊥
no_one_past_the_end [] bytes one = one
no_one_past_the_end (file ∷ files) bytes one = no_one_past_the_end files bytes one

-- since this moment there is only what there is now
pub outcomes_now : (past : List (Vec ℕ Global)) (bytes : List ℕ) (others : List (Vec ℕ Global)) (left : List ℕ) → IsOutcomeSince past bytes others (length past) left → IsOutcome bytes others left
outcomes_now past bytes others left (inl now) = now
outcomes_now past bytes others left (inr earlier) = absurd (no_one_past_the_end past left earlier)
