use Rattle.std.proofs.Common.{length}
use Rattle.path_capture.specs.Path.{pieces}
use Rattle.evaluator.proofs.Pieces.{Walked}
use Rattle.evaluator.proofs.snapshot.at_keys.Given as goal

-- what is left of the pieces leads from here where all of them lead
abbrev pub invariant-loop-piece : goal.invariant-loop-piece
invariant-loop-piece l = Walked l.place (pieces l.text) (length l.yielded) l.at
