use Rattle.std.proofs.Common.{◌∙◌, ◌||◌, option_map, sym}
use Rattle.std.proofs.lemmas.Result.{IfOk-weaker, IfErr-weaker}
use Rattle.std.specs.Borrow.{Bor}
use Rattle.listeners.specs.Query.{Query}
use Rattle.rtdb_model.specs.declared.event.Event.TheVariants.{Listen}
use Rattle.rtdb_model.specs.Borrowed.{refusal_of}
use Rattle.rtdb_model.specs.Step.{listens, takes_none}
use Rattle.rtdb_core.specs.Working.Passages.{who_of}
use Rattle.rtdb_core.proofs.Barring.{staying_comes, staying_refuses}
use Rattle.rtdb_core.proofs.Deciding.{listen_refuses, listen_comes, listen_is_judged}
use Rattle.rtdb_core.proofs.machine.Machine.judge_listen.Goals as goal

pub returns-clause-found : goal.returns-clause-found
returns-clause-found c =
    let old = c.args.self.now in
    let n = c.args.session in
    let query = option_map (λ (query : Bor Query). query.now) c.args.query in
    let who = who_of c.identity.result in
    let ls = c.in_ok-open.open.now.listeners in
    let opened = sym c.in_ok-open.ensures.open in
    let is = c.identity.ensures ∙ c.in_ok-open.ensures.identity in
    let may = sym c.in_default.ensures in
    let judged = listen_is_judged old c.args.now n who ls c.args.id.now c.args.path.now query opened is c.in_ok-open.ensures.listeners may in
    IfOk-weaker c.judge_read.result _ _
    (λ found g. (
      staying_comes old n (listens old c.args.now n c.args.id.now c.args.path.now query) c.in_ok-open.ensures.stays found _ (listen_comes old c.args.now n who ls c.args.id.now c.args.path.now query opened is c.in_ok-open.ensures.listeners may found g),
      c.in_ok-open.ensures.open,
      (λ i. c.in_ok-open.ensures.stays i || judged i),
    ))
    c.judge_read.ensures.granted

pub returns-clause-refused : goal.returns-clause-refused
returns-clause-refused c =
    let old = c.args.self.now in
    let n = c.args.session in
    let query = option_map (λ (query : Bor Query). query.now) c.args.query in
    IfErr-weaker c.judge_read.result _ _
    (λ refusal h. staying_refuses old n (listens old c.args.now n c.args.id.now c.args.path.now query) c.in_ok-open.ensures.stays (takes_none old n (Listen c.args.id.now c.args.path.now query)) (refusal_of refusal)
    (listen_refuses old c.args.now n (who_of c.identity.result) c.in_ok-open.open.now.listeners c.args.id.now c.args.path.now query (sym c.in_ok-open.ensures.open) (c.identity.ensures ∙ c.in_ok-open.ensures.identity) c.in_ok-open.ensures.listeners (sym c.in_default.ensures) refusal h))
    c.judge_read.ensures.refused
