use Rattle.std.proofs.Common.{◌∙◌, ◌||◌, not, sym}
use Rattle.std.proofs.lemmas.Result.{IfOk-weaker, IfErr-weaker}
use Rattle.rtdb_model.specs.Borrowed.{refusal_of}
use Rattle.rtdb_model.specs.State.{is_open}
use Rattle.rtdb_model.specs.Step.{sets}
use Rattle.rtdb_core.specs.Working.Passages.{who_of}
use Rattle.rtdb_core.proofs.Barring.{staying_comes, staying_refuses}
use Rattle.rtdb_core.proofs.Refusing.{set_refuses, set_comes, set_can_be_made}
use Rattle.rtdb_core.proofs.machine.Machine.judge_set.Goals as goal

pub returns-clause-found : goal.returns-clause-found
returns-clause-found c =
    let old = c.args.self.now in
    let n = c.args.session in
    let who = who_of c.identity.result in
    let is = c.identity.ensures ∙ c.in_ok-open.ensures.identity in
    let opened = sym c.in_ok-open.ensures.open in
    IfOk-weaker c.judge_writes.result _ _
    (λ found g. (
      staying_comes old n (sets old c.args.now n c.args.write.now) c.in_ok-open.ensures.stays found _ (set_comes old c.args.now n who c.from_ref.result.now c.args.write.now is opened c.from_ref.ensures.value found g c.requires.fixed),
      set_can_be_made old c.args.now n who c.from_ref.result.now c.args.write.now is opened c.from_ref.ensures.value found g c.requires.fixed,
      (λ i. c.in_ok-open.ensures.stays i || not (c.in_ok-open.ensures.open i)),
    ))
    c.judge_writes.ensures.granted

pub returns-clause-refused : goal.returns-clause-refused
returns-clause-refused c =
    let old = c.args.self.now in
    let n = c.args.session in
    IfErr-weaker c.judge_writes.result _ _
    (λ refusal h. staying_refuses old n (sets old c.args.now n c.args.write.now) c.in_ok-open.ensures.stays (not (is_open old n)) (refusal_of refusal)
    (set_refuses old c.args.now n (who_of c.identity.result) c.from_ref.result.now c.args.write.now (c.identity.ensures ∙ c.in_ok-open.ensures.identity) (sym c.in_ok-open.ensures.open) c.from_ref.ensures.value refusal h))
    c.judge_writes.ensures.refused
