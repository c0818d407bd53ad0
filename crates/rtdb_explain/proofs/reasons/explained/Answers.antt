use Rattle.std.proofs.Common.{◌≡◌, ◌∙◌, sym, ap, subst, inl, inr, map, IfOk, IfSome, IfNone, true, List, [], ◌∷◌}
use Rattle.tree_model.specs.Put.{overlaps}
use Rattle.tree_model.specs.Write.{Write}
use Rattle.rtdb_model.specs.declared.event.Event.{Event}
use Rattle.request_explainer.specs.Asked.{asked_of}
use Rattle.rtdb_explain.specs.Explained.{IsOnWrites, IsOnEvent, IsUnasked}
use Rattle.rtdb_explain.proofs.reasons.explained.Goals as goal

pub returns-in-Set-clause-says : goal.returns-in-Set-clause-says
returns-in-Set-clause-says c =
    let one = subst (λ (given : List Write). IfOk c.writes-in-Set.result (λ found. IfSome found (λ it. IsOnWrites c.args.core.now c.args.stamp.now c.args.stamp.session given it.verdict (map asked_of it.rules.items)))) c.from_ref-in-Set.ensures.value c.writes-in-Set.ensures.says in
    let on = λ (event : Event). IfOk c.writes-in-Set.result (λ found. IfSome found (λ it. IsOnEvent c.args.core.now c.args.stamp.now c.args.stamp.session event it.verdict (map asked_of it.rules.items))) in
    elim c.in-Set.is as (λ _. on c.args.event.now) [ inl is ↦ subst on (sym is) one | inr is ↦ subst on (sym is) one ]

pub returns-in-Remove-clause-says : goal.returns-in-Remove-clause-says
returns-in-Remove-clause-says c =
    let one = subst (λ (given : List Write). IfOk c.writes-in-Remove.result (λ found. IfSome found (λ it. IsOnWrites c.args.core.now c.args.stamp.now c.args.stamp.session given it.verdict (map asked_of it.rules.items)))) (c.from_ref.ensures.value ∙ ap (λ (write : Write). write ∷ []) c.write.ensures) c.writes-in-Remove.ensures.says in
    let on = λ (event : Event). IfOk c.writes-in-Remove.result (λ found. IfSome found (λ it. IsOnEvent c.args.core.now c.args.stamp.now c.args.stamp.session event it.verdict (map asked_of it.rules.items))) in
    elim c.in-Remove.is as (λ _. on c.args.event.now) [ inl is ↦ subst on (sym is) one | inr is ↦ subst on (sym is) one ]

pub returns-in-Set-clause-unasked : goal.returns-in-Set-clause-unasked
returns-in-Set-clause-unasked c =
    let one = subst (λ (given : List Write). IfOk c.writes-in-Set.result (λ found. IfNone found (overlaps given ≡ true))) c.from_ref-in-Set.ensures.value c.writes-in-Set.ensures.overlapping in
    let on = λ (event : Event). IfOk c.writes-in-Set.result (λ found. IfNone found (IsUnasked event)) in
    elim c.in-Set.is as (λ _. on c.args.event.now) [ inl is ↦ subst on (sym is) one | inr is ↦ subst on (sym is) one ]

pub returns-in-Remove-clause-unasked : goal.returns-in-Remove-clause-unasked
returns-in-Remove-clause-unasked c =
    let one = subst (λ (given : List Write). IfOk c.writes-in-Remove.result (λ found. IfNone found (overlaps given ≡ true))) (c.from_ref.ensures.value ∙ ap (λ (write : Write). write ∷ []) c.write.ensures) c.writes-in-Remove.ensures.overlapping in
    let on = λ (event : Event). IfOk c.writes-in-Remove.result (λ found. IfNone found (IsUnasked event)) in
    elim c.in-Remove.is as (λ _. on c.args.event.now) [ inl is ↦ subst on (sym is) one | inr is ↦ subst on (sym is) one ]
