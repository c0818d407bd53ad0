use Rattle.std.proofs.Common.{◌≡◌, take}
use Rattle.judge.specs.Placed.{path_by}
use Rattle.request_explainer.proofs.place.Place.front.Given as goal

abbrev pub invariant-loop-key : goal.invariant-loop-key
invariant-loop-key l = path_by l.held.items ≡ take l.key-index l.front
