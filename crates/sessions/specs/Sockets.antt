-- What a peer behind a WebSocket does with its socket. (This project's profile; the library says what a socket reads and writes.)
use Rattle.std.specs.Prelude.{◌≡◌, ℕ, zero, suc, ◌≤◌, ◌⊎◌, ⊤, List, [], Option, None, Result, Ok, Err}
use Rattle.std.specs.Str.{IsUtf8}
use Rattle.tungstenite.specs.Connection.{write_step, close_step}
use Rattle.tungstenite.specs.Content.{Content, text as text_content}
use Rattle.tungstenite.specs.Failure.{IsIo, WriteFails}
use Rattle.tungstenite.specs.Socket.{Socket, Reads, Writes}
use Rattle.tungstenite.specs.declared.error.Error.{Error}
use Rattle.tungstenite.specs.declared.error.Error.TheVariants as fault
use Rattle.tungstenite.specs.declared.message.Message.{Message}
use Rattle.tungstenite.specs.declared.message.Message.TheVariants as message
use Rattle.sessions.specs.declared.peer.Received.{Received}
use Rattle.sessions.specs.declared.peer.Received.TheVariants as received
use Rattle.sessions.specs.declared.peer.Sent.{Sent}
use Rattle.sessions.specs.declared.peer.Sent.TheVariants as sent

-- ---- what is received

-- these bytes are received as a message, or there is no memory for them
abbrev pub IsMessage : List ℕ → Received → Type 0
IsMessage bytes (received.Message it) = it.items ≡ bytes
IsMessage bytes received.NoMemory = ⊤
IsMessage bytes it = ⊥

-- a message of the socket is taken for this: one of text or of bytes for all its bytes; a close for the end; another for none
abbrev pub IsTakenFor : Message → Received → Type 0
IsTakenFor (message.Text said) it = IsMessage said it
IsTakenFor (message.Binary said) it = IsMessage said it
IsTakenFor (message.Ping said) received.Nothing = ⊤
IsTakenFor (message.Pong said) received.Nothing = ⊤
IsTakenFor (message.Close frame) received.Closed = ⊤
IsTakenFor message it = ⊥

-- a fault of a read is taken for this: that of a closed connection for the end, that of the stream for a wait, a fault or want of memory, and another for a fault
abbrev pub IsReadFor : Error → Received → Type 0
IsReadFor fault.ConnectionClosed received.Closed = ⊤
IsReadFor fault.ConnectionClosed it = ⊥
IsReadFor fault.OutOfMemory received.NoMemory = ⊤
IsReadFor fault.OutOfMemory it = ⊥
IsReadFor (fault.Io cause) received.Nothing = ⊤
IsReadFor (fault.Io cause) received.NoMemory = ⊤
IsReadFor cause received.Broken = ⊤
IsReadFor cause it = ⊥

-- the socket was read once, and what it gave is taken for this
abbrev pub IsRead : {S : Type 0} → (S → Option (List ℕ)) → Socket S → Received → Socket S → Type 0
IsRead remaining s it t =
    ((got : Message) × Reads remaining s t (Ok got) × IsTakenFor got it)
    ⊎ ((cause : Error) × Reads remaining s t (Err cause) × IsReadFor cause it)

-- ---- what is sent

-- a fault of a write is taken for this: want of memory for itself, that of the stream for a fault or want of memory, and another for a fault
abbrev pub IsUnsentFor : Error → Sent → Type 0
IsUnsentFor fault.OutOfMemory sent.NoMemory = ⊤
IsUnsentFor fault.OutOfMemory it = ⊥
IsUnsentFor (fault.Io cause) sent.NoMemory = ⊤
IsUnsentFor cause sent.Broken = ⊤
IsUnsentFor cause it = ⊥

-- the socket has failed to write this: of what it writes the stream has a front, or nothing
pub record Fails {S : Type 0} (contents : S → Option (List ℕ)) (s : Socket S) (content : Content) (cause : Error) (t : Socket S) : Type 0 where
  pub why : WriteFails (write_step s.conn content) cause
  pub stream : IsIo cause → Writes contents s t (write_step s.conn content)
  pub memory : cause ≡ fault.OutOfMemory → t ≡ s

-- this was written to the socket as one message, all of which is with the stream; or the socket has failed to write it
abbrev pub IsWritten : {S : Type 0} → (S → Option (List ℕ)) → Socket S → Content → Sent → Socket S → Type 0
IsWritten contents s content sent.Done t = Writes contents s t (write_step s.conn content) × (t.output ≡ [])
IsWritten contents s content it t = (cause : Error) × Fails contents s content cause t × IsUnsentFor cause it

-- a text was written to the socket, or the socket has failed to; or it was not touched, since the text is no UTF-8, which is a fault, or there was no memory for the message
abbrev pub IsSaid : {S : Type 0} → (S → Option (List ℕ)) → Socket S → List ℕ → Sent → Socket S → Type 0
IsSaid contents s said it t =
    IsWritten contents s (text_content said) it t
    ⊎ (((¬ (IsUtf8 said)) × (it ≡ sent.Broken) × (t ≡ s)) ⊎ ((it ≡ sent.NoMemory) × (t ≡ s)))

-- ---- the end

-- the socket was read so often, whatever came of it
abbrev pub AreReads : {S : Type 0} → (S → Option (List ℕ)) → ℕ → Socket S → Socket S → Type 0
AreReads remaining zero s t = t ≡ s
AreReads {S} remaining (suc n) s t = (between : Socket S) × (it : Result Message Error) × AreReads remaining n s between × Reads remaining between t it

-- the socket was read, 16 times at most
abbrev pub AwaitsClose : {S : Type 0} → (S → Option (List ℕ)) → Socket S → Socket S → Type 0
AwaitsClose remaining s t = (n : ℕ) × (n ≤ 16) × AreReads remaining n s t

-- a close was written to the socket, all of which is with the stream, and its answer was awaited; or the socket has failed to write it
abbrev pub IsFinished : {S : Type 0} → (S → Option (List ℕ)) → (S → Option (List ℕ)) → Socket S → Socket S → Type 0
IsFinished {S} remaining contents s t =
    ((closing : Socket S) × Writes contents s closing (close_step s.conn None) × (closing.output ≡ []) × AwaitsClose remaining closing t)
    ⊎ ((cause : Error) × WriteFails (close_step s.conn None) cause × (IsIo cause → Writes contents s t (close_step s.conn None)) × (cause ≡ fault.OutOfMemory → t ≡ s))
