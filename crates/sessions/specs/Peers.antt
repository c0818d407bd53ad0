-- What each call of a peer does. (This project's profile.)
use Rattle.std.specs.Prelude.{◌≡◌, ℕ, true, List, [], ◌∷◌}
use Rattle.sessions.specs.Traffic.{Traffic, Moves, StaysAs}
use Rattle.sessions.specs.declared.peer.Received.{Received}
use Rattle.sessions.specs.declared.peer.Received.TheVariants as received
use Rattle.sessions.specs.declared.peer.Sent.{Sent}
use Rattle.sessions.specs.declared.peer.Sent.TheVariants as sent

-- a message is the first that was left; nothing else is taken, and a peer that has closed, has failed or has lost a message says so
abbrev pub Receives : Traffic → Received → Traffic → Type 0
Receives p (received.Message message) q = Moves p (message.items ∷ []) [] q × StaysAs p q
Receives p received.Nothing q = q ≡ p
Receives p received.Closed q = q ≡ record p { closed = true }
Receives p received.Broken q = q ≡ record p { failed = true }
Receives p received.NoMemory q = q ≡ record p { lost = true }

-- a text was sent whole, or is not counted as sent
abbrev pub Sends : Traffic → List ℕ → Sent → Traffic → Type 0
Sends p text sent.Done q = Moves p [] (text ∷ []) q × StaysAs p q
Sends p text sent.Broken q = q ≡ record p { failed = true }
Sends p text sent.NoMemory q = q ≡ record p { lost = true }
