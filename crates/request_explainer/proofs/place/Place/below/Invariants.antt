use Rattle.std.proofs.Common.{◌≡◌, take}
use Rattle.request_explainer.proofs.place.Place.below.Given as goal

abbrev pub invariant-loop-key : goal.invariant-loop-key
invariant-loop-key l = l.held.items ≡ take l.key-index l.above
