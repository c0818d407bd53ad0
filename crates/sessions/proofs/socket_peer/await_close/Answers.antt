use Rattle.sessions.proofs.Reading.{reads_more}
use Rattle.sessions.proofs.socket_peer.await_close.Goals as goal

pub loop-preserved : goal.loop-preserved
loop-preserved g c = reads_more g.S.Read.remaining c.loop.counter c.args.socket.now c.loop.socket c.read.new.self c.read.result c.loop.invariant c.read.ensures
