-- The entry that a journal has of a call. (This project's profile.)
use Rattle.std.specs.Prelude.{◌≡◌, ℕ, List, Option}
use Rattle.rtdb_model.specs.declared.event.Event.{Event}
use Rattle.rtdb_model.specs.declared.reply.Reply.{Reply}
use Rattle.rtdb_laws.specs.Effects.{changes, is_effective}
use Rattle.entries.specs.Entry.{Means, call}

-- these bytes are the entry of the event, asked at this moment by this session, and if it deploys rules they have the text of their file; and what its reply says decides whether it has changed something
pub record IsEntryOf (now session : ℕ) (event : Event) (bytes : List ℕ) : Type 0 where
  pub deployed : Option (List ℕ)
  pub means : Means bytes (call (record { now = now; session = session; event = event }) deployed)
  pub by_reply : (reply : Reply) → changes event reply ≡ is_effective reply
