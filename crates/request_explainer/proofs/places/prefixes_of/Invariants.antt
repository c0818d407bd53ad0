use Rattle.std.proofs.Common.{◌≡◌, take}
use Rattle.tree_model.specs.Path.{prefixes}
use Rattle.request_explainer.specs.Working.{places_by}
use Rattle.request_explainer.proofs.places.prefixes_of.Given as goal

abbrev pub invariant-loop-count : goal.invariant-loop-count
invariant-loop-count l = places_by l.places.items ≡ take l.count (prefixes l.path)
