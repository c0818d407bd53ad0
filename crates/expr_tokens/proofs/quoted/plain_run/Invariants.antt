use Rattle.std.proofs.Common.{◌≡◌, ◌≤◌, ◌-◌, true, length, take}
use Rattle.std.specs.List.{list_all}
use Rattle.expr_tokens.specs.Working.Scanning.{is_plain}
use Rattle.expr_tokens.proofs.quoted.plain_run.Given as goal

abbrev pub invariant-loop-n : goal.invariant-loop-n
invariant-loop-n l = record { within : l.n ≤ length l.bytes; passes : list_all (is_plain l.quote) (take l.n l.bytes) ≡ true }

abbrev pub decreases-loop-n : goal.decreases-loop-n
decreases-loop-n l = length l.bytes - l.n
