use Rattle.std.proofs.Common.{◌≡◌, ◌++◌, map, drop}
use Rattle.judge.specs.Question.{scene_of}
use Rattle.request_explainer.specs.Asked.{asked_of}
use Rattle.request_explainer.specs.Working.{asked_at_each, places_by}
use Rattle.request_explainer.proofs.asked.ask_each.Given as goal

abbrev pub invariant-loop-place : goal.invariant-loop-place
invariant-loop-place l =
    map asked_of l.asked.items ++ asked_at_each (scene_of l.scene) l.inquiry (places_by (drop l.place-index l.places))
    ≡ map asked_of l.fn.asked.items ++ asked_at_each (scene_of l.scene) l.inquiry (places_by l.places)
