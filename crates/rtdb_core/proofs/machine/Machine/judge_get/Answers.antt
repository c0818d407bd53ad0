use Rattle.std.proofs.Common.{◌∙◌, not, option_map, sym}
use Rattle.std.proofs.lemmas.Result.{IfOk-weaker, IfErr-weaker}
use Rattle.std.specs.Borrow.{Bor}
use Rattle.listeners.specs.Query.{Query}
use Rattle.rtdb_model.specs.Borrowed.{refusal_of}
use Rattle.rtdb_model.specs.State.{is_open}
use Rattle.rtdb_model.specs.Step.{gets}
use Rattle.rtdb_core.specs.Working.Passages.{who_of}
use Rattle.rtdb_core.proofs.Barring.{staying_comes, staying_refuses}
use Rattle.rtdb_core.proofs.Refusing.{get_refuses, get_comes}
use Rattle.rtdb_core.proofs.machine.Machine.judge_get.Goals as goal

pub returns-clause-found : goal.returns-clause-found
returns-clause-found c =
    let old = c.args.self.now in
    let n = c.args.session in
    let query = option_map (λ (query : Bor Query). query.now) c.args.query in
    IfOk-weaker c.judge_read.result _ _
    (λ found g. staying_comes old n (gets old c.args.now n c.args.path.now query) c.in_ok-open.ensures.stays found old
    (get_comes old c.args.now n (who_of c.identity.result) c.args.path.now query (sym c.in_ok-open.ensures.open) (c.identity.ensures ∙ c.in_ok-open.ensures.identity) found g))
    c.judge_read.ensures.granted

pub returns-clause-refused : goal.returns-clause-refused
returns-clause-refused c =
    let old = c.args.self.now in
    let n = c.args.session in
    let query = option_map (λ (query : Bor Query). query.now) c.args.query in
    IfErr-weaker c.judge_read.result _ _
    (λ refusal h. staying_refuses old n (gets old c.args.now n c.args.path.now query) c.in_ok-open.ensures.stays (not (is_open old n)) (refusal_of refusal)
    (get_refuses old c.args.now n (who_of c.identity.result) c.args.path.now query (sym c.in_ok-open.ensures.open) (c.identity.ensures ∙ c.in_ok-open.ensures.identity) refusal h))
    c.judge_read.ensures.refused
