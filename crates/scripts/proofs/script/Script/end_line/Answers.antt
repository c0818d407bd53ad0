use Rattle.std.proofs.lemmas.Result.{err_from_is_err_and}
use Rattle.scripts.proofs.Keeping.{ShowsFront-of-KeepsFront}
use Rattle.scripts.proofs.script.Script.end_line.Goals as goal

pub returns-clause-ok : goal.returns-clause-ok
returns-clause-ok g c = λ lines line sent holds stands.
    c.in_ok-answer.ensures.ok lines line sent (ShowsFront-of-KeepsFront _ _ line _ c.deref.ensures.value holds) stands

pub returns-in_err-answer-clause-err : goal.returns-in_err-answer-clause-err
returns-in_err-answer-clause-err g c = λ lines line sent holds stands.
    let p = err_from_is_err_and c.from_residual.result c.from_residual.ensures.1 in
    rw (p.1, p.2) (c.in_err-answer.ensures.err lines line sent (ShowsFront-of-KeepsFront _ _ line _ c.deref.ensures.value holds) stands)
