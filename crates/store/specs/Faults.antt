-- Why a journal gives no database.
use Rattle.entries.specs.declared.entry.EntryFault.{EntryFault}
use Rattle.entries.specs.declared.entry.EntryFault.TheVariants as entries
use Rattle.rtdb_core.specs.declared.resuming.ResumeFault.{ResumeFault}
use Rattle.rtdb_core.specs.declared.resuming.ResumeFault.TheVariants as resumes
use Rattle.store.specs.declared.fault.ReplayFault.{ReplayFault}
use Rattle.store.specs.declared.fault.ReplayFault.TheVariants as replays

-- a text that means nothing fits nowhere
abbrev pub fault_of_entry : EntryFault → ReplayFault
fault_of_entry entries.NotAnEntry = replays.Unfit
fault_of_entry entries.NoMemory = replays.NoMemory

-- what can't be put back fits nowhere
abbrev pub fault_of_resume : ResumeFault → ReplayFault
fault_of_resume resumes.Unfit = replays.Unfit
fault_of_resume resumes.NoMemory = replays.NoMemory
