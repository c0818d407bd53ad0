use Rattle.std.specs.Io.KnownBytes.{Keeps}
use Rattle.scripts.proofs.streams.read_once.Given as goal

abbrev pub invariant-loop-call : goal.invariant-loop-call
invariant-loop-call g l = Keeps (g.R.Read.remaining l.fn.inner) (g.R.Read.remaining l.inner)
