use Rattle.std.proofs.Common.{◌≡◌, ◌∙◌, true, slice_get, sym, ap}
use Rattle.rtdb_model.specs.State.{Session, is_leaving, actions_of}
use Rattle.rtdb_core.specs.Working.Passages.{who_of}
use Rattle.rtdb_core.proofs.Running.{first_of, none_first, none_comes, none_may, run_comes, run_may}
use Rattle.rtdb_core.proofs.machine.Machine.judge_run.Goals as goal

pub returns-in_ok-judge_action-in-Some-clause-found : goal.returns-in_ok-judge_action-in-Some-clause-found
returns-in_ok-judge_action-in-Some-clause-found c =
    let old = c.args.self.now in
    let n = c.args.session in
    let opened = c.in_ok-open.ensures.open in
    let one = c.in_ok-open.ensures.one in
    let leaving : is_leaving old n ≡ true = ap (λ (s : Session). s.leaving) (sym one) ∙ sym c.is_leaving.ensures ∙ c.if-not-is_leaving.false in
    let listed = c.actions.ensures ∙ ap (λ (s : Session). s.actions) one in
    let first = first_of (actions_of old n) c.in-Some.action.now (ap (λ all. slice_get all 0) (sym listed) ∙ sym c.in-Some.ensures.value) in
    let who = who_of c.identity.result in
    let is = c.identity.ensures ∙ c.in_ok-open.ensures.identity in
    let found = c.in_ok-judge_action-in-Some.field-0 in
    let so = c.in_ok-judge_action-in-Some.ensures in (
      run_comes old c.args.now n opened leaving who is c.in-Some.action.now _ first found so,
      run_may old c.args.now n opened leaving who is c.in-Some.action.now _ first found so,
    )

pub returns-in-None-clause-found : goal.returns-in-None-clause-found
returns-in-None-clause-found c =
    let old = c.args.self.now in
    let n = c.args.session in
    let opened = c.in_ok-open.ensures.open in
    let one = c.in_ok-open.ensures.one in
    let leaving : is_leaving old n ≡ true = ap (λ (s : Session). s.leaving) (sym one) ∙ sym c.is_leaving.ensures ∙ c.if-not-is_leaving.false in
    let listed = c.actions.ensures ∙ ap (λ (s : Session). s.actions) one in
    let none = none_first (actions_of old n) (ap (λ all. slice_get all 0) (sym listed) ∙ sym c.in-None.ensures.value) in (
      none_comes old c.args.now n opened leaving c.empty.result none c.empty.ensures.reply c.empty.ensures.run,
      none_may old c.args.now n opened leaving c.empty.result c.empty.ensures.run,
    )
