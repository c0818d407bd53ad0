use Rattle.std.proofs.Common.{length}
use Rattle.std.specs.Prelude.{string_bytes}
use denote.Shadow.{shadow}
use denote.Text.{Utf8}
use Rattle.expr_tokens.specs.Quoted.{said}
use Rattle.expr_tokens.proofs.Said.{IsSaid}
use Rattle.expr_tokens.proofs.quoted.resolved.Given as goal

abbrev pub invariant-loop-text : goal.invariant-loop-text
invariant-loop-text l = record {
  so_far : IsSaid l.quote (said l.written) (string_bytes l.text) l.rest;
  utf8 : shadow (Utf8 l.rest);
}

abbrev pub decreases-loop-text : goal.decreases-loop-text
decreases-loop-text l = length l.rest
