-- A session from its opening to its end. (This project's profile.)
use Rattle.std.specs.Prelude.{◌≡◌, ◌≢◌, ℕ, ◌<◌, true, false, ◌⊎◌, List, [], ◌∷◌, ◌++◌, All, length, Option}
use Rattle.tokens.specs.Tokens.{Tokens}
use Rattle.rtdb_model.specs.declared.event.Event.TheVariants.{Open}
use Rattle.rtdb_model.specs.declared.reply.Reply.{Reply}
use Rattle.rtdb_model.specs.declared.reply.Reply.TheVariants.{Done}
use Rattle.answers.specs.AnswerText.{text}
use Rattle.locked_server.specs.Known.{Known}
use Rattle.sessions.specs.Traffic.{Traffic, Adds, Takes, Stands, IsThere}
use Rattle.sessions.specs.Calls.{Gains}
use Rattle.sessions.specs.Turns.{Deeds, both, calling, Turn, IsWhole, IsCut, got_in, deeds_in}
use Rattle.sessions.specs.Departure.{Departs}
use Rattle.sessions.specs.declared.serve.SessionEnd.{SessionEnd}
use Rattle.sessions.specs.declared.serve.SessionEnd.TheVariants.{PeerClosed, PeerFault, Turns, NoMemory, NotOpened, Unkept}

-- what a session has to do with: what its seat knows, the moments that its clock has given, where it reports them, and what went between the server and its peer
pub record World : Type 0 where
  pub seat : Known
  pub moments : Option (List ℕ)
  pub traffic : Traffic

-- the world of these parts
abbrev pub world : Known → Option (List ℕ) → Traffic → World
world seat moments traffic = record { seat = seat; moments = moments; traffic = traffic }

-- these messages were received and this was done, and nothing else
pub record Goes (before : World) (messages : List (List ℕ)) (deeds : Deeds) (after : World) : Type 0 where
  pub reads : Adds before.moments deeds.moments after.moments
  pub gains : Gains before.seat deeds.calls after.seat
  pub takes : Takes before.traffic.left messages after.traffic.left
  pub sends : Adds before.traffic.sent deeds.texts after.traffic.sent

-- how the peer stands where a turn is cut short and the session ends so, with these texts not sent: it has closed, and no text was to be sent; or it has failed; or, for want of memory, it has lost a message or a text, or it is there and there was a text to be written; or it is there, and what was to be shown can't be stored
abbrev pub Fits : SessionEnd → Traffic → List (List ℕ) → Type 0
Fits PeerClosed q held = Stands q true false false × (held ≡ [])
Fits PeerFault q held = Stands q false true false
Fits Turns q held = ⊥
Fits NoMemory q held = Stands q false false true ⊎ (IsThere q × (held ≢ []))
Fits NotOpened q held = ⊥
Fits Unkept q held = IsThere q

-- all turns were whole, as many as there may be, and the peer is there; or the last one was cut short, one of no more than there may be
abbrev pub EndsAs : Tokens → ℕ → ℕ → List Turn → Traffic → SessionEnd → Type 0
EndsAs tokens session most turns q end =
    (All (IsWhole tokens session) turns × (length turns ≡ most) × (end ≡ Turns) × IsThere q)
    ⊎ ((earlier : List Turn) × (last : Turn) × (held : List (List ℕ)) × (turns ≡ earlier ++ last ∷ []) × All (IsWhole tokens session) earlier × IsCut tokens session last held
    × (length earlier < most) × Fits end q held)

-- the session was not opened: its opening was refused, or it could not be asked; at most the text of that was sent
abbrev pub IsTurnedAway : ℕ → Deeds → SessionEnd → Type 0
IsTurnedAway session d end =
    (now : ℕ) × (reply : Reply) × (texts : List (List ℕ)) × (reply ≢ Done) × ((texts ≡ []) ⊎ (texts ≡ text reply ∷ []))
    × (d ≡ record (calling now session Open reply) { texts = texts }) × (end ≡ NotOpened)

-- the session was opened, had its turns, and went: it left, its actions were run, and it was closed
abbrev pub IsAttended : Tokens → ℕ → ℕ → List (List ℕ) → Deeds → Traffic → SessionEnd → Type 0
IsAttended tokens session most messages d q end =
    (now : ℕ) × (turns : List Turn) × (departure : Deeds) × Departs session departure
    × (messages ≡ got_in turns) × (d ≡ both (calling now session Open Done) (both (deeds_in turns) departure))
    × EndsAs tokens session most turns q end

-- these messages and this are all that was received and done for one client, who leaves this traffic: the session was turned away, or attended
abbrev pub IsVisit : Tokens → ℕ → ℕ → List (List ℕ) → Deeds → Traffic → SessionEnd → Type 0
IsVisit tokens session most messages d q end = ((messages ≡ []) × IsTurnedAway session d end) ⊎ IsAttended tokens session most messages d q end

-- one client was there, and nothing else was done
abbrev pub Visits : Tokens → ℕ → ℕ → World → SessionEnd → World → Type 0
Visits tokens session most before end after = (messages : List (List ℕ)) × (d : Deeds) × Goes before messages d after × IsVisit tokens session most messages d after.traffic end

-- A session was served, with these tokens and at most so many turns: it was turned away or attended, and then the server has finished with its peer.
abbrev pub Serves : Tokens → ℕ → ℕ → World → SessionEnd → World → Type 0
Serves tokens session most before end after = Visits tokens session most before end after × (after.traffic.finished ≡ true)
