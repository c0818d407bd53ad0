use Rattle.std.proofs.Common.{length}
use denote.Shadow.{shadow}
use denote.Text.{Utf8}
use Rattle.path_capture.proofs.Segments.{Keyed}
use Rattle.path_capture.proofs.path.keys_below.Given as goal

-- the keys are those before and the segments so far, a lawful path
abbrev pub invariant-loop-rest : goal.invariant-loop-rest
invariant-loop-rest l = record {
  keyed : Keyed l.front l.text l.keys.items l.rest;
  utf8 : shadow (Utf8 l.rest);
}

abbrev pub decreases-loop-rest : goal.decreases-loop-rest
decreases-loop-rest l = length l.rest
