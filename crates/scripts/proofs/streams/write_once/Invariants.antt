use Rattle.std.specs.Io.KnownBytes.{Keeps}
use Rattle.scripts.proofs.streams.write_once.Given as goal

abbrev pub invariant-loop-call : goal.invariant-loop-call
invariant-loop-call g l = Keeps (g.W.Write.contents l.fn.inner) (g.W.Write.contents l.inner)
