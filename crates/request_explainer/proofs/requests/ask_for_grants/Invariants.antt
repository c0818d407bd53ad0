use Rattle.std.proofs.Common.{◌≡◌, ◌++◌, map, take}
use Rattle.std.specs.Prelude.{flat_map}
use Rattle.tree_model.specs.Put.{location}
use Rattle.path_capture.specs.Write.{tree_or_null}
use Rattle.rules_reader.specs.declared.kind.Kind.TheVariants.{Write}
use Rattle.judge.specs.Question.{scene_of, writing}
use Rattle.request_explainer.specs.Asked.{asked_of, asked_along}
use Rattle.request_explainer.proofs.requests.ask_for_grants.Given as goal

abbrev pub invariant-loop-write : goal.invariant-loop-write
invariant-loop-write l =
    map asked_of l.rules.items
    ≡ map asked_of l.fn.rules.items ++ flat_map (asked_along (writing (scene_of l.scene) (tree_or_null l.coming)) Write) (map location (take l.write-index l.writes))
