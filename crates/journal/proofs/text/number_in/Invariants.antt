use Rattle.std.proofs.Common.{◌≡◌, ◌<◌, ◌^◌, take}
use Rattle.journal.specs.Format.{digits}
use Rattle.journal.proofs.text.number_in.Given as goal

-- so far the digits are those of the number
abbrev pub invariant-loop-digit : goal.invariant-loop-digit
invariant-loop-digit l = record {
  same : digits l.digit-index l.number ≡ take l.digit-index l.text;
  small : l.number < 10 ^ l.digit-index;
}
