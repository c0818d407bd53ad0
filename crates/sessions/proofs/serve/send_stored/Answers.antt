use Rattle.std.proofs.Common.{refl}
use Rattle.sessions.proofs.Going.{moves_none}
use Rattle.sessions.proofs.serve.send_stored.Goals as goal

pub returns-in-Err-clause-sent : goal.returns-in-Err-clause-sent
returns-in-Err-clause-sent g c = let p = g.P.Peer.traffic c.args.peer.now in (moves_none p p refl refl, c.requires.open.0)
