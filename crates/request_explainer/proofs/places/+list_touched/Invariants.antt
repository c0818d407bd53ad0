use Rattle.std.proofs.Common.{◌≡◌, ◌++◌, ◌∷◌, map, take}
use Rattle.std.specs.FinMap as map_of
use Rattle.tree_model.specs.PathMap.{depth}
use Rattle.tree_model.specs.Put.{location}
use Rattle.tree_model.specs.Tree.{children}
use Rattle.request_explainer.specs.Working.{places_by}
use Rattle.request_explainer.proofs.Touching.{touched_in}
use Rattle.request_explainer.proofs.places.+list_touched.Given as goal

abbrev pub decreases-list_touched : goal.decreases-list_touched
decreases-list_touched l = depth l.view.now

abbrev pub invariant-loop-i : goal.invariant-loop-i
invariant-loop-i l = places_by l.places.items ≡ places_by l.fn.places.items ++ (l.here ∷ touched_in (map location l.writes) l.here (take l.i (map_of.entries (children l.view))))
