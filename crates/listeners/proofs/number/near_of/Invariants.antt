use Rattle.std.proofs.Common.{◌≡◌, ◌≤◌, drop}
use Rattle.listeners.specs.Working.Numbers.{near_of, read_after}
use Rattle.listeners.proofs.number.near_of.Given as goal

abbrev pub invariant-loop-digit : goal.invariant-loop-digit
invariant-loop-digit l = record {
  near : l.number ≤ 2147483648;
  rest : near_of l.digits ≡ read_after l.number (drop l.digit-index l.digits);
}
