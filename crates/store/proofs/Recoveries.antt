-- What a refused recovery says of its file.
use Rattle.journal.specs.Format.{Group, AllFit, opening, entries_text, file_of}
use Rattle.journal.specs.Recovery.{Begins}
use Rattle.journal.specs.Recovering.{texts_of}
use Rattle.std.proofs.Common.{◌≡◌, ◌⊎◌, inl, inr, ℕ, ◌++◌, List, Option, Some, None, subst, sym}
use Rattle.store.specs.declared.fault.ReplayFault.{ReplayFault}
use Rattle.store.specs.declared.fault.ReplayFault.TheVariants.{NoMemory, Unfit}
use Rattle.store.specs.declared.fault.RecoveryFault.{RecoveryFault}
use Rattle.store.specs.Replay.{Stage, empty, Replays}
use Rattle.store.specs.Recovered.{HasUnfitEntry, IsFaultOf}
use Rattle.store.specs.Working.{IsFaultBy}

pub fault_told : (file : List ℕ) (o : Option ReplayFault) (fault : RecoveryFault) → IsFaultBy o fault → (o ≡ Some NoMemory) ⊎ HasUnfitEntry file → IsFaultOf file fault
fault_told file (Some NoMemory) fault by why = subst (IsFaultOf file) (sym by) tt
fault_told file (Some Unfit) fault by (inr unfit) = subst (IsFaultOf file) (sym by.1) unfit
fault_told file (Some Unfit) fault by (inl memory) = absurd (never memory)
  where
    never : Some Unfit ≡ Some NoMemory → ⊥
    never same = cc
fault_told file None fault by (inr unfit) = subst (IsFaultOf file) (sym by.1) unfit
fault_told file None fault by (inl memory) = absurd (never memory)
  where
    never : None ≡ Some NoMemory → ⊥
    never same = cc

-- the entries of a stopped recovery lead nowhere, or memory was wanting
pub unfit_of : (file identifier : List ℕ) (groups : List Group) (rest : List ℕ) (entries : List (List ℕ)) (Wants : Type 0) → file ≡ file_of identifier groups ++ rest → AllFit (opening identifier) groups → Begins (entries_text entries) (texts_of groups)
    → Wants ⊎ ((after : Stage) → Replays entries empty after → ⊥) → Wants ⊎ HasUnfitEntry file
unfit_of file identifier groups rest entries Wants same fit first (inl wants) = inl wants
unfit_of file identifier groups rest entries Wants same fit first (inr nowhere) = inr (record { identifier = identifier; groups = groups; rest = rest; entries = entries; same = same; fit = fit; first = first; nowhere = nowhere })
