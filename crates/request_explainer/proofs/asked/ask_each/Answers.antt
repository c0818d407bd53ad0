use Rattle.std.proofs.Common.{◌++◌, ◌+◌, map, drop, Some, option_map, sym, ap, ◌∙◌}
use Rattle.judge.specs.Question.{scene_of}
use Rattle.judge.specs.Placed.{placed_of}
use Rattle.request_explainer.specs.Asked.{AskedRule, asked_of, asked_at, asked_rule}
use Rattle.request_explainer.specs.Working.{question_of, kind_of, is_last, asked_at_each, places_by}
use Rattle.request_explainer.proofs.Asking.{one_place, went_on, ended, pushed}
use Rattle.request_explainer.proofs.asked.ask_each.Goals as goal

pub returns-then-is_last : goal.returns-then-is_last
returns-then-is_last c =
    let q = question_of (scene_of c.args.scene.now) c.args.inquiry in
    let kind = kind_of c.args.inquiry in
    let place = c.place-item.result in
    let listed = asked_of c.in_ok-explained.field-0 in
    pushed c.loop-place.asked.items c.push.new.self.items c.in_ok-explained.field-0 c.in_ok-push.ensures.items
    ∙ ended (asked_at q kind) (is_last c.args.inquiry) (map asked_of c.loop-place.asked.items) place.now (places_by (drop (c.loop-place.place-index + 1) c.args.places.now)) (places_by (drop c.loop-place.place-index c.args.places.now)) listed
    (map asked_of c.args.asked.now.items ++ asked_at_each (scene_of c.args.scene.now) c.args.inquiry (places_by c.args.places.now))
    (one_place c.args.places.now c.loop-place.place-index place c.loop-place-test.true c.place-item.is)
    (ap (option_map (asked_rule kind place.now)) (sym c.in_ok-rule.ensures ∙ ap (option_map placed_of) c.in-Some.is) ∙ ap Some (sym (c.in_ok-explained.ensures ∙ ap (λ k. asked_rule k place.now (placed_of c.in-Some.rule)) c.kind.ensures)))
    (sym (c.ends_at-is_last.ensures listed (ap (λ (a : AskedRule). a.rule.answer) c.in_ok-explained.ensures)) ∙ c.if-is_last.true)
    c.loop-place.invariant

pub loop-place-preserved : goal.loop-place-preserved
loop-place-preserved c =
    let q = question_of (scene_of c.args.scene.now) c.args.inquiry in
    let kind = kind_of c.args.inquiry in
    let place = c.place-item.result in
    let listed = asked_of c.in_ok-explained.field-0 in
    ap (λ rs. rs ++ asked_at_each (scene_of c.args.scene.now) c.args.inquiry (places_by (drop (c.loop-place.place-index + 1) c.args.places.now))) (pushed c.loop-place.asked.items c.push.new.self.items c.in_ok-explained.field-0 c.in_ok-push.ensures.items)
    ∙ went_on (asked_at q kind) (is_last c.args.inquiry) (map asked_of c.loop-place.asked.items) place.now (places_by (drop (c.loop-place.place-index + 1) c.args.places.now)) (places_by (drop c.loop-place.place-index c.args.places.now)) listed
    (map asked_of c.args.asked.now.items ++ asked_at_each (scene_of c.args.scene.now) c.args.inquiry (places_by c.args.places.now))
    (one_place c.args.places.now c.loop-place.place-index place c.loop-place-test.true c.place-item.is)
    (ap (option_map (asked_rule kind place.now)) (sym c.in_ok-rule.ensures ∙ ap (option_map placed_of) c.in-Some.is) ∙ ap Some (sym (c.in_ok-explained.ensures ∙ ap (λ k. asked_rule k place.now (placed_of c.in-Some.rule)) c.kind.ensures)))
    (sym (c.ends_at-is_last.ensures listed (ap (λ (a : AskedRule). a.rule.answer) c.in_ok-explained.ensures)) ∙ c.if-is_last.false)
    c.loop-place.invariant
