use Rattle.std.proofs.Common.{◌≡◌, ◌≤◌, ◌-◌, true, length, take}
use Rattle.json_lines.specs.Tokens.{is_plain}
use Rattle.std.specs.List.{list_all}
use Rattle.json_lines.proofs.runs.plain_run.Given as goal

-- the bytes so far pass
abbrev pub invariant-loop-n : goal.invariant-loop-n
invariant-loop-n l = record { within : l.n ≤ length l.bytes; passes : list_all is_plain (take l.n l.bytes) ≡ true }

abbrev pub decreases-loop-n : goal.decreases-loop-n
decreases-loop-n l = length l.bytes - l.n
