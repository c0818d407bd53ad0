use Rattle.std.proofs.Common.{length}
use denote.Shadow.{shadow}
use denote.Text.{Utf8}
use Rattle.expr_tokens.proofs.Whole.{Kept}
use Rattle.expr_tokens.proofs.scanner.scan.Given as goal

abbrev pub invariant-loop-rest : goal.invariant-loop-rest
invariant-loop-rest l = record {
  kept : Kept l.text l.tokens.items l.places.items l.rest l.after_dot;
  utf8 : shadow (Utf8 l.rest);
}

abbrev pub decreases-loop-rest : goal.decreases-loop-rest
decreases-loop-rest l = length l.rest
