use Rattle.std.proofs.Common.{◌≡◌, []}
use Rattle.sessions.specs.Traffic.{IsOpen}
use Rattle.sessions.specs.Serving.{world}
use Rattle.sessions.proofs.Turning.{SoFar}
use Rattle.sessions.proofs.serve.take_turns.Given as goal

abbrev pub invariant-loop : goal.invariant-loop
invariant-loop g l = record {
  hall : l.seat.hall ≡ l.place.hall.now;
  open_peer : IsOpen (g.P.Peer.traffic l.peer);
  clear : (l.desk.out.before ≡ []) × (l.desk.out.text ≡ []);
  so_far : SoFar l.place.tokens.now l.place.session l.counter (world l.fn.seat (g.C.Clock.moments l.fn.clock) (g.P.Peer.traffic l.fn.peer)) (world l.seat (g.C.Clock.moments l.clock) (g.P.Peer.traffic l.peer));
}
