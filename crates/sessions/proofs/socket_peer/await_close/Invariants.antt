use Rattle.sessions.specs.Sockets.{AreReads}
use Rattle.sessions.proofs.socket_peer.await_close.Given as goal

abbrev pub invariant-loop : goal.invariant-loop
invariant-loop g l = AreReads g.S.Read.remaining l.counter l.fn.socket l.socket
