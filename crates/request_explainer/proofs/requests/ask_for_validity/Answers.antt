use Rattle.std.proofs.Common.{◌++◌, map, ap, ◌∙◌}
use Rattle.judge.specs.Question.{scene_of}
use Rattle.request_explainer.specs.Asked.{asked_of, asked_below}
use Rattle.request_explainer.specs.Working.{asked_at_each, places_by}
use Rattle.request_explainer.specs.declared.asked.Inquiry.TheVariants as inquiries
use Rattle.request_explainer.proofs.requests.ask_for_validity.Goals as goal

pub returns : goal.returns
unfolding asked_below
returns c =
    let scene = scene_of c.args.scene.now in
    c.in_ok-ask_each.ensures
    ∙ ap (λ ps. map asked_of c.args.rules.now.items ++ asked_at_each scene (inquiries.Validate c.args.coming) ps) (ap places_by c.as_slice.ensures.value ∙ c.in_ok-places.ensures)
