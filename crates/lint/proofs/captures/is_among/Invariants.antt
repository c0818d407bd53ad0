use Rattle.std.proofs.Common.{◌≡◌, drop, map}
use Rattle.std.specs.List.{list_any}
use Rattle.lint.specs.Working.{path_eq, place}
use Rattle.lint.proofs.captures.is_among.Given as goal

-- none of those before is the same, so one is among all where one is among those that are left
abbrev pub invariant-loop-seen : goal.invariant-loop-seen
invariant-loop-seen l = list_any (path_eq (place l.rule)) (map place (drop l.seen-index l.all.items)) ≡ list_any (path_eq (place l.rule)) (map place l.all.items)
