-- Reads of a socket, one after another.
use Rattle.std.proofs.Common.{◌≡◌, ℕ, suc, ◌+◌, List, Option, Result, arith, subst}
use Rattle.tungstenite.specs.Socket.{Socket, Reads}
use Rattle.tungstenite.specs.declared.error.Error.{Error}
use Rattle.tungstenite.specs.declared.message.Message.{Message}
use Rattle.sessions.specs.Sockets.{AreReads}

module _ {S : Type 0} where
  pub reads_more : (remaining : S → Option (List ℕ)) (n : ℕ) (s between t : Socket S) (it : Result Message Error) → AreReads remaining n s between → Reads remaining between t it → AreReads remaining (n + 1) s t
  reads_more remaining n s between t it so_far once = let one_more : suc n ≡ n + 1 = omega arith in subst (λ (m : ℕ). AreReads remaining m s t) one_more (between, it, so_far, once)
