-- What becomes of the sessions that were open when a database went down: their clients are gone. (Guide "Enabling Offline Capabilities", how onDisconnect works; that it happens at the next start is this project's profile.)
use Rattle.std.specs.Prelude.{◌≡◌, ◌⊎◌, ℕ, List, [], ◌∷◌, false}
use Rattle.rtdb_model.specs.declared.event.Event.{Event}
use Rattle.rtdb_model.specs.declared.event.Event.TheVariants.{Close, Leave, RunNext}
use Rattle.rtdb_model.specs.declared.reply.Reply.{Reply}
use Rattle.rtdb_model.specs.declared.reply.Reply.TheVariants.{Done, Ran, Closed}
use Rattle.rtdb_model.specs.declared.reply.Ran.TheVariants.{Applied, Skipped}
use Rattle.rtdb_model.specs.declared.reply.Refusal.{Refusal}
use Rattle.rtdb_model.specs.State.{State, is_open}
use Rattle.rtdb_model.specs.Step.{Call, Run}
use Rattle.store.specs.Replay.{AreEntriesOf}

-- a leave is done; an action is run, and made or skipped; a closing drops no action
abbrev pub Departs : Event → Reply → Type 0
Departs Leave reply = reply ≡ Done
Departs RunNext reply = (reply ≡ Ran Applied) ⊎ ((refusal : Refusal) × (reply ≡ Ran (Skipped refusal)))
Departs Close reply = reply ≡ Closed 0
Departs event reply = ⊥

-- these calls are of departures, at this moment, and are answered so
abbrev pub AllDepart : ℕ → List Call → List Reply → Type 0
AllDepart now [] [] = Unit {0}
AllDepart now [] (reply ∷ replies) = ⊥
AllDepart now (c ∷ calls) [] = ⊥
AllDepart now (c ∷ calls) (reply ∷ replies) = (c.now ≡ now) × Departs c.event reply × AllDepart now calls replies

-- Each session that was open has left, its actions were run by the rules at this moment, and it was closed; no other is open. The entries are those of these calls.
pub record HaveLeft (old : State) (now : ℕ) (entries : List (List ℕ)) (new : State) : Type 0 where
  pub calls : List Call
  pub replies : List Reply
  pub run : Run old calls replies new
  pub depart : AllDepart now calls replies
  pub kept : AreEntriesOf entries calls
  pub closed : (session : ℕ) → is_open new session ≡ false
