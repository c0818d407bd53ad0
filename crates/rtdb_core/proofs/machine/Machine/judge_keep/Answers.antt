use Rattle.std.proofs.Common.{◌∙◌, ◌||◌, inl, sym}
use Rattle.std.proofs.lemmas.Result.{IfOk-weaker, IfErr-weaker}
use Rattle.rtdb_model.specs.declared.event.Event.TheVariants.{OnSet}
use Rattle.rtdb_model.specs.declared.reply.Refusal.TheVariants.{TooManyActions}
use Rattle.rtdb_model.specs.Borrowed.{refusal_of}
use Rattle.rtdb_model.specs.Step.{keeps_one, takes_none}
use Rattle.rtdb_core.specs.Working.Passages.{who_of}
use Rattle.rtdb_core.proofs.Barring.{staying_comes, staying_refuses}
use Rattle.rtdb_core.proofs.Keeping.{has_as_many, one_too_many, one_takes, one_refuses, one_comes}
use Rattle.rtdb_core.proofs.machine.Machine.judge_keep.Goals as goal

pub returns-then-is_full-clause-refused : goal.returns-then-is_full-clause-refused
returns-then-is_full-clause-refused c =
    let old = c.args.self.now in
    let n = c.args.session in
    staying_refuses old n (keeps_one old c.args.now n c.args.write.now) c.in_ok-open.ensures.stays (takes_none old n (OnSet c.args.write.now)) TooManyActions
    (inl (one_too_many old c.args.now n c.args.write.now c.in_ok-open.ensures.open (has_as_many old n c.in_ok-open.open.now.actions c.in_ok-open.ensures.actions c.is_full.result _ c.is_full.ensures c.if-is_full.true)))

pub returns-clause-found : goal.returns-clause-found
returns-clause-found c =
    let old = c.args.self.now in
    let n = c.args.session in
    let write = c.args.write.now in
    let opened = c.in_ok-open.ensures.open in
    let room = has_as_many old n c.in_ok-open.open.now.actions c.in_ok-open.ensures.actions c.is_full.result _ c.is_full.ensures c.if-is_full.false in
    let takes = one_takes old c.args.now n write opened room in
    IfOk-weaker c.judge_later.result _ _
    (λ found g. (
      staying_comes old n (keeps_one old c.args.now n write) c.in_ok-open.ensures.stays found _ (one_comes old c.args.now n write opened room (who_of c.identity.result) c.from_ref.result.now (c.identity.ensures ∙ c.in_ok-open.ensures.identity) c.from_ref.ensures.value found g),
      opened,
      (λ i. c.in_ok-open.ensures.stays i || takes i),
    ))
    c.judge_later.ensures.granted

pub returns-clause-refused : goal.returns-clause-refused
returns-clause-refused c =
    let old = c.args.self.now in
    let n = c.args.session in
    let write = c.args.write.now in
    let room = has_as_many old n c.in_ok-open.open.now.actions c.in_ok-open.ensures.actions c.is_full.result _ c.is_full.ensures c.if-is_full.false in
    IfErr-weaker c.judge_later.result _ _
    (λ refusal h. staying_refuses old n (keeps_one old c.args.now n write) c.in_ok-open.ensures.stays (takes_none old n (OnSet write)) (refusal_of refusal)
    (one_refuses old c.args.now n write c.in_ok-open.ensures.open room (who_of c.identity.result) c.from_ref.result.now (c.identity.ensures ∙ c.in_ok-open.ensures.identity) c.from_ref.ensures.value refusal h))
    c.judge_later.ensures.refused
