use Rattle.std.proofs.lemmas.Result.{err_from_is_err_and}
use Rattle.scripts.proofs.Standing.{HasAnswered-line, StopsAfter-line}
use Rattle.scripts.proofs.desk.Desk.answer.Goals as goal

pub returns-clause-ok : goal.returns-clause-ok
returns-clause-ok g c = λ lines line sent shows stands.
    HasAnswered-line lines line _ _ _ _ _ sent _ shows stands _ c.in_ok-answer_text.ensures.ok.0 _ c.if-blank.false c.in_ok-answer_text.ensures.ok.1 c.in_ok-answer_text.ensures.ok.2

pub returns-in_err-answer_text-clause-err : goal.returns-in_err-answer_text-clause-err
returns-in_err-answer_text-clause-err g c = λ lines line sent shows stands.
    let p = err_from_is_err_and c.from_residual.result c.from_residual.ensures.1 in
    rw (p.1, p.2) (StopsAfter-line lines line _ _ _ _ _ sent _ shows stands c.requires.going c.in_err-answer_text.field-0.0 _ _ c.if-blank.false c.in_err-answer_text.ensures.err)
