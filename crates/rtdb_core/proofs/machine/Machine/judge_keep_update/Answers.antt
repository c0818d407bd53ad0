use Rattle.std.proofs.Common.{◌∙◌, inl, sym, ap}
use Rattle.std.proofs.lemmas.Result.{IfOk-weaker, IfErr-weaker}
use Rattle.rtdb_model.specs.declared.event.Event.TheVariants.{OnUpdate}
use Rattle.rtdb_model.specs.declared.reply.Refusal.TheVariants.{EmptyUpdate, Overlap, TooManyActions}
use Rattle.rtdb_model.specs.Borrowed.{refusal_of}
use Rattle.rtdb_model.specs.Step.{keeps_update, takes_none}
use Rattle.rtdb_core.specs.Working.Passages.{who_of}
use Rattle.rtdb_core.proofs.Barring.{staying_comes, staying_refuses}
use Rattle.rtdb_core.proofs.AnyOrder.{some_in_any_order, none_in_any_order}
use Rattle.rtdb_core.proofs.Keeping.{has_as_many, all_empty, all_overlap, all_too_many, all_refuse, all_come, all_may}
use Rattle.rtdb_core.proofs.machine.Machine.judge_keep_update.Goals as goal

pub returns-then-is_empty-clause-refused : goal.returns-then-is_empty-clause-refused
returns-then-is_empty-clause-refused c =
    let old = c.args.self.now in
    let n = c.args.session in
    let ws = c.args.writes.now in
    let xs = c.in_order-writes.result.now in
    let p = c.in_order-writes.ensures.permutation in
    staying_refuses old n (keeps_update old c.args.now n ws) c.in_ok-open.ensures.stays (takes_none old n (OnUpdate ws)) EmptyUpdate
    (inl (all_empty old c.args.now n ws xs c.in_ok-open.ensures.open p (none_in_any_order ws xs p (sym c.is_empty.ensures ∙ c.if-is_empty.true))))

pub returns-then-overlaps-clause-refused : goal.returns-then-overlaps-clause-refused
returns-then-overlaps-clause-refused c =
    let old = c.args.self.now in
    let n = c.args.session in
    let ws = c.args.writes.now in
    let xs = c.in_order-writes.result.now in
    let p = c.in_order-writes.ensures.permutation in
    staying_refuses old n (keeps_update old c.args.now n ws) c.in_ok-open.ensures.stays (takes_none old n (OnUpdate ws)) Overlap
    (inl (all_overlap old c.args.now n ws xs c.in_ok-open.ensures.open p (some_in_any_order ws xs p (sym c.is_empty.ensures ∙ c.if-is_empty.false)) (sym c.overlaps.ensures ∙ c.if-overlaps.true)))

pub returns-then-is_full-clause-refused : goal.returns-then-is_full-clause-refused
returns-then-is_full-clause-refused c =
    let old = c.args.self.now in
    let n = c.args.session in
    let ws = c.args.writes.now in
    let xs = c.in_order-writes.result.now in
    let p = c.in_order-writes.ensures.permutation in
    staying_refuses old n (keeps_update old c.args.now n ws) c.in_ok-open.ensures.stays (takes_none old n (OnUpdate ws)) TooManyActions
    (inl (all_too_many old c.args.now n ws xs c.in_ok-open.ensures.open p (some_in_any_order ws xs p (sym c.is_empty.ensures ∙ c.if-is_empty.false)) (sym c.overlaps.ensures ∙ c.if-overlaps.false)
    (has_as_many old n c.in_ok-open.open.now.actions c.in_ok-open.ensures.actions c.is_full.result _ c.is_full.ensures c.if-is_full.true)))

pub returns-clause-found : goal.returns-clause-found
returns-clause-found c =
    let old = c.args.self.now in
    let n = c.args.session in
    let ws = c.args.writes.now in
    let xs = c.in_order-writes.result.now in
    let p = c.in_order-writes.ensures.permutation in
    let who = who_of c.identity.result in
    let is = c.identity.ensures ∙ c.in_ok-open.ensures.identity in
    let opened = c.in_ok-open.ensures.open in
    let some = some_in_any_order ws xs p (sym c.is_empty.ensures ∙ c.if-is_empty.false) in
    let apart = sym c.overlaps.ensures ∙ c.if-overlaps.false in
    let room = has_as_many old n c.in_ok-open.open.now.actions c.in_ok-open.ensures.actions c.is_full.result _ c.is_full.ensures c.if-is_full.false in
    IfOk-weaker c.judge_later.result _ _
    (λ found g. (
      staying_comes old n (keeps_update old c.args.now n ws) c.in_ok-open.ensures.stays found _ (all_come old c.args.now n ws xs opened p some apart room who is c.rules.ensures.one found g),
      all_may old c.args.now n ws xs opened p some apart room who is c.rules.ensures.one c.in_ok-open.ensures.stays,
    ))
    c.judge_later.ensures.granted

pub returns-clause-refused : goal.returns-clause-refused
returns-clause-refused c =
    let old = c.args.self.now in
    let n = c.args.session in
    let ws = c.args.writes.now in
    let xs = c.in_order-writes.result.now in
    let p = c.in_order-writes.ensures.permutation in
    let some = some_in_any_order ws xs p (sym c.is_empty.ensures ∙ c.if-is_empty.false) in
    let apart = sym c.overlaps.ensures ∙ c.if-overlaps.false in
    let room = has_as_many old n c.in_ok-open.open.now.actions c.in_ok-open.ensures.actions c.is_full.result _ c.is_full.ensures c.if-is_full.false in
    IfErr-weaker c.judge_later.result _ _
    (λ refusal h. staying_refuses old n (keeps_update old c.args.now n ws) c.in_ok-open.ensures.stays (takes_none old n (OnUpdate ws)) (refusal_of refusal)
    (all_refuse old c.args.now n ws xs c.in_ok-open.ensures.open p some apart room (who_of c.identity.result) (c.identity.ensures ∙ c.in_ok-open.ensures.identity) c.rules.ensures.one refusal h))
    c.judge_later.ensures.refused
