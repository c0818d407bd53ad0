use Rattle.std.proofs.Common.{length}
use Rattle.path_capture.specs.Path.{pieces}
use Rattle.path_capture.proofs.Segments.{Counted}
use Rattle.listeners.proofs.members.count_of_segments.Given as goal

-- the segments so far are lawful keys, and have been counted
abbrev pub invariant-loop-piece : goal.invariant-loop-piece
invariant-loop-piece l = Counted (pieces l.text) (length l.yielded) l.count
