use Rattle.std.proofs.Common.{◌++◌, map, ap, ◌∙◌}
use Rattle.tree_model.specs.Path.{prefixes}
use Rattle.tree_model.specs.Put.{location}
use Rattle.path_capture.specs.Write.{tree_or_null}
use Rattle.rules_reader.specs.declared.kind.Kind.TheVariants.{Write}
use Rattle.judge.specs.Question.{scene_of, writing}
use Rattle.request_explainer.specs.Asked.{asked_of, asked_along}
use Rattle.request_explainer.specs.Working.{asked_at_each, places_by}
use Rattle.request_explainer.specs.declared.asked.Inquiry.TheVariants as inquiries
use Rattle.request_explainer.proofs.Asking.{next_location}
use Rattle.request_explainer.proofs.requests.ask_for_grants.Goals as goal

pub loop-write-preserved : goal.loop-write-preserved
unfolding asked_along
loop-write-preserved c =
    let scene = scene_of c.args.scene.now in
    let q = writing scene (tree_or_null c.args.coming.now) in
    let before = map asked_of c.loop-write.rules.items in
    next_location location (asked_along q Write) c.args.writes.now c.loop-write.write-index c.write-item.result (map asked_of c.args.rules.now.items) before (map asked_of c.ask_each.new.asked.items) c.loop-write-test.true c.write-item.is c.loop-write.invariant
    (c.in_ok-ask_each.ensures ∙ ap (λ ps. before ++ asked_at_each scene (inquiries.Write c.args.coming) ps) (ap places_by c.as_slice.ensures.value ∙ c.in_ok-places.ensures ∙ ap prefixes c.at.ensures.path))
