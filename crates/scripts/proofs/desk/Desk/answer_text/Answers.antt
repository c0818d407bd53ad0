use Rattle.std.proofs.Common.{ℕ, List, ◌++◌, ◌∙◌, ap, subst}
use Rattle.std.proofs.lemmas.Result.{err_from_is_err_and}
use Rattle.scripts.specs.Working.Sent.{Breaks}
use Rattle.scripts.proofs.desk.Desk.answer_text.Goals as goal

pub returns-in_err-put-clause-err : goal.returns-in_err-put-clause-err
returns-in_err-put-clause-err g c =
    let p = err_from_is_err_and c.from_residual-in_err-put.result c.from_residual-in_err-put.ensures.1 in
    let answered = c.in_ok-answer.ensures.ok in
    let whole = ap (λ (r : List ℕ). c.respond.new.self.outgoing.bytes.items ++ r) c.rest.ensures ∙ answered.2 in
    rw (p.1, p.2) (c.in_err-put.ensures.failed, _, answered.0, answered.1, subst (λ (o : List ℕ). Breaks (g.W.Sink.written c.args.sink.now) (g.W.Sink.written c.put.new.sink) o) whole c.in_err-put.ensures.err)
