use Rattle.std.proofs.Common.{◌++◌, map, ap, ◌∙◌}
use Rattle.judge.specs.Question.{scene_of}
use Rattle.request_explainer.specs.Asked.{asked_of, asked_along}
use Rattle.request_explainer.specs.Working.{asked_at_each, places_by}
use Rattle.request_explainer.specs.declared.asked.Inquiry.TheVariants as inquiries
use Rattle.request_explainer.proofs.requests.explain_read.Goals as goal

pub returns-clause-rules : goal.returns-clause-rules
unfolding asked_along
returns-clause-rules c =
    let scene = scene_of c.args.scene.now in
    let inquiry = inquiries.Read c.args.asked in
    c.in_ok-ask_each.ensures
    ∙ (λ i. map asked_of (c.new-rules.ensures.items i) ++ asked_at_each scene inquiry (places_by (c.as_slice.ensures.value i)))
    ∙ ap (asked_at_each scene inquiry) c.in_ok-places.ensures
