use Rattle.std.proofs.Common.{length}
use Rattle.request_explainer.proofs.places.+is_near.Given as goal

abbrev pub decreases-is_near : goal.decreases-is_near
decreases-is_near l = length l.place.now
