-- What goes between a server and a peer. (This project's profile.)
use Rattle.std.specs.Prelude.{◌≡◌, ℕ, Bool, false, List, ◌++◌, Option, Some, None}

-- the messages of the peer that are still to be received, and the texts that were sent to it, where it reports them; whether it has closed, whether it has failed, whether a message or a text was lost for want of memory, and whether the server has finished with it
pub record Traffic : Type 0 where
  pub left : Option (List (List ℕ))
  pub sent : Option (List (List ℕ))
  pub closed : Bool
  pub failed : Bool
  pub lost : Bool
  pub finished : Bool

-- a list grows by these at its end, where it is reported
abbrev pub Adds : {A : Type 0} → Option (List A) → List A → Option (List A) → Type 0
Adds None more after = after ≡ None
Adds (Some before) more after = after ≡ Some (before ++ more)

-- a list begins with these and loses them, where it is reported
abbrev pub Takes : {A : Type 0} → Option (List A) → List A → Option (List A) → Type 0
Takes None taken after = after ≡ None
Takes {A} (Some before) taken after = (rest : List A) × (before ≡ taken ++ rest) × (after ≡ Some rest)

-- the peer has closed, has failed, and has lost something, where these say so
abbrev pub Stands : Traffic → Bool → Bool → Bool → Type 0
Stands p closed failed lost = (p.closed ≡ closed) × (p.failed ≡ failed) × (p.lost ≡ lost)

-- the peer is there, and has lost nothing
abbrev pub IsThere : Traffic → Type 0
IsThere p = Stands p false false false

-- the peer may be received from and sent to
abbrev pub IsOpen : Traffic → Type 0
IsOpen p = IsThere p × (p.finished ≡ false)

-- these messages were received, and these texts were sent
pub record Moves (p : Traffic) (messages texts : List (List ℕ)) (q : Traffic) : Type 0 where
  pub takes : Takes p.left messages q.left
  pub adds : Adds p.sent texts q.sent

-- neither has the peer closed, failed or lost anything, nor the server finished, where it had not
abbrev pub StaysAs : Traffic → Traffic → Type 0
StaysAs p q = Stands q p.closed p.failed p.lost × (q.finished ≡ p.finished)
