use Rattle.std.proofs.Common.{◌≡◌, map, take}
use Rattle.tree_model.specs.Put.{location}
use Rattle.judge.specs.Working.Locations.{paths}
use Rattle.judge.proofs.judging.locations_of.Given as goal

abbrev pub invariant-loop-write : goal.invariant-loop-write
invariant-loop-write l = paths l.locations.items ≡ map location (take l.write-index l.writes)
