-- What is done when a session goes: its client may have left by a word or have vanished. (Guide "Enabling Offline Capabilities", how onDisconnect works; the order and the limit are this project's profile.)
use Rattle.std.specs.Prelude.{◌≡◌, ℕ, ◌<◌, ◌⊎◌, Bool, true, false, List, [], ◌∷◌, ◌++◌, All, length}
use Rattle.rtdb_model.specs.declared.event.Event.TheVariants.{Leave, RunNext, Close}
use Rattle.rtdb_model.specs.declared.reply.Reply.{Reply}
use Rattle.rtdb_model.specs.declared.reply.Reply.TheVariants.{Ran}
use Rattle.rtdb_model.specs.declared.reply.Ran.TheVariants.{Empty}
use Rattle.sessions.specs.Turns.{Deeds, nothing, both, calling}
use Rattle.sessions.specs.declared.departure.TheConstants.{MAX_RUNS}

-- no action was left to be run
abbrev pub found_none : Reply → Bool
found_none (Ran Empty) = true
found_none reply = false

-- a run of an action: at which moment, and how it was answered
pub record Run : Type 0 where
  pub moment : ℕ
  pub reply : Reply

-- what is done in these runs, one after another
abbrev pub runs_in : ℕ → List Run → Deeds
runs_in session [] = nothing
runs_in session (run ∷ runs) = both (calling run.moment session RunNext run.reply) (runs_in session runs)

-- actions were run as often as they may be, and each time there may have been one; or until none was left
abbrev pub AreRun : List Run → Type 0
AreRun runs =
    (All (λ run. found_none run.reply ≡ false) runs × (length runs ≡ MAX_RUNS))
    ⊎ ((earlier : List Run) × (last : Run) × (runs ≡ earlier ++ last ∷ []) × All (λ run. found_none run.reply ≡ false) earlier × (length earlier < MAX_RUNS) × (found_none last.reply ≡ true))

-- a session goes: it leaves, its actions are run, and it is closed
abbrev pub Departs : ℕ → Deeds → Type 0
Departs session d =
    (now then : ℕ) × (leave close : Reply) × (runs : List Run) × AreRun runs
    × (d ≡ both (calling now session Leave leave) (both (runs_in session runs) (calling then session Close close)))
