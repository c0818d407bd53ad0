use Rattle.std.proofs.Common.{◌∙◌, ◌||◌, inl, sym}
use Rattle.std.proofs.lemmas.Result.{IfOk-weaker, IfErr-weaker}
use Rattle.std.proofs.lemmas.List.Sorted.{All-permutation}
use Rattle.tree_model.specs.Put.{written}
use Rattle.tree_model.specs.Draft.{IsFixed}
use Rattle.rtdb_model.specs.declared.event.Event.TheVariants.{Update}
use Rattle.rtdb_model.specs.declared.reply.Refusal.TheVariants.{EmptyUpdate, Overlap}
use Rattle.rtdb_model.specs.Borrowed.{refusal_of}
use Rattle.rtdb_model.specs.Step.{updates, takes_none}
use Rattle.rtdb_core.specs.Working.Passages.{who_of}
use Rattle.rtdb_core.proofs.Barring.{staying_comes, staying_refuses}
use Rattle.rtdb_core.proofs.AnyOrder.{some_in_any_order, update_empty, update_overlaps, update_refuses, update_comes, update_can_be_made, update_takes_memory}
use Rattle.rtdb_core.proofs.machine.Machine.judge_update.Goals as goal

pub returns-then-is_empty-clause-refused : goal.returns-then-is_empty-clause-refused
returns-then-is_empty-clause-refused c =
    let old = c.args.self.now in
    let n = c.args.session in
    let ws = c.args.writes.now in
    staying_refuses old n (updates old c.args.now n ws) c.in_ok-open.ensures.stays (takes_none old n (Update ws)) EmptyUpdate
    (inl (update_empty old c.args.now n ws c.in_order-writes.result.now c.in_ok-open.ensures.open c.in_order-writes.ensures.permutation (sym c.is_empty.ensures ∙ c.if-is_empty.true)))

pub returns-then-overlaps-clause-refused : goal.returns-then-overlaps-clause-refused
returns-then-overlaps-clause-refused c =
    let old = c.args.self.now in
    let n = c.args.session in
    let ws = c.args.writes.now in
    let xs = c.in_order-writes.result.now in
    let p = c.in_order-writes.ensures.permutation in
    staying_refuses old n (updates old c.args.now n ws) c.in_ok-open.ensures.stays (takes_none old n (Update ws)) Overlap
    (inl (update_overlaps old c.args.now n ws xs c.in_ok-open.ensures.open (some_in_any_order ws xs p (sym c.is_empty.ensures ∙ c.if-is_empty.false)) p (sym c.overlaps.ensures ∙ c.if-overlaps.true)))

pub judge_writes-requires-clause-fixed : goal.judge_writes-requires-clause-fixed
judge_writes-requires-clause-fixed c = All-permutation (λ w. IsFixed (written w)) c.args.writes.now c.in_order-writes.result.now c.in_order-writes.ensures.permutation c.requires.fixed

pub returns-clause-found : goal.returns-clause-found
returns-clause-found c =
    let old = c.args.self.now in
    let n = c.args.session in
    let who = who_of c.identity.result in
    let ws = c.args.writes.now in
    let xs = c.in_order-writes.result.now in
    let p = c.in_order-writes.ensures.permutation in
    let is = c.identity.ensures ∙ c.in_ok-open.ensures.identity in
    let opened = c.in_ok-open.ensures.open in
    let some = some_in_any_order ws xs p (sym c.is_empty.ensures ∙ c.if-is_empty.false) in
    let apart = sym c.overlaps.ensures ∙ c.if-overlaps.false in
    let takes = update_takes_memory old c.args.now n ws xs opened some p apart in
    IfOk-weaker c.judge_writes.result _ _
    (λ found g. (
      staying_comes old n (updates old c.args.now n ws) c.in_ok-open.ensures.stays found _ (update_comes old c.args.now n who ws xs is opened some p c.rules.ensures.one apart found g c.requires.fixed),
      update_can_be_made old c.args.now n who ws xs is opened some p c.rules.ensures.one apart found g c.requires.fixed,
      (λ i. c.in_ok-open.ensures.stays i || takes i),
    ))
    c.judge_writes.ensures.granted

pub returns-clause-refused : goal.returns-clause-refused
returns-clause-refused c =
    let old = c.args.self.now in
    let n = c.args.session in
    let ws = c.args.writes.now in
    let xs = c.in_order-writes.result.now in
    let p = c.in_order-writes.ensures.permutation in
    IfErr-weaker c.judge_writes.result _ _
    (λ refusal h. staying_refuses old n (updates old c.args.now n ws) c.in_ok-open.ensures.stays (takes_none old n (Update ws)) (refusal_of refusal)
    (update_refuses old c.args.now n (who_of c.identity.result) ws xs (c.identity.ensures ∙ c.in_ok-open.ensures.identity) c.in_ok-open.ensures.open
    (some_in_any_order ws xs p (sym c.is_empty.ensures ∙ c.if-is_empty.false)) p c.rules.ensures.one (sym c.overlaps.ensures ∙ c.if-overlaps.false) refusal h))
    c.judge_writes.ensures.refused
