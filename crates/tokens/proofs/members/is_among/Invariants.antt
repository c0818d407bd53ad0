use Rattle.std.proofs.Common.{◌≡◌, map, drop}
use Rattle.std.specs.List.{list_any}
use Rattle.std.specs.Str.{bytes_eq}
use Rattle.tokens.proofs.members.is_among.Given as goal

-- it is among those that are left just where it is among all
abbrev pub invariant-loop-other : goal.invariant-loop-other
invariant-loop-other l = list_any (bytes_eq l.name) (map (λ other. other.now) (drop l.other-index l.lawful)) ≡ list_any (bytes_eq l.name) (map (λ other. other.now) l.lawful)
