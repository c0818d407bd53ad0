use Rattle.std.proofs.Common.{◌≡◌, ◌≤◌, drop}
use Rattle.expr_tokens.specs.Words.{numeral_from, greatest}
use Rattle.expr_tokens.proofs.front.value_of.Given as goal

abbrev pub invariant-loop-digit : goal.invariant-loop-digit
invariant-loop-digit l = record {
  small : l.value ≤ greatest;
  same : numeral_from l.value (drop l.digit-index l.digits) ≡ numeral_from 0 l.digits;
}
