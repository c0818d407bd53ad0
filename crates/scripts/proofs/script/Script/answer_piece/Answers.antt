use Rattle.std.proofs.Common.{[]}
use Rattle.std.proofs.lemmas.Result.{err_from_is_err_and}
use Rattle.scripts.proofs.Feeding.{Follows-handed, StopsWithin-handed}
use Rattle.scripts.proofs.script.Script.answer_piece.Goals as goal

pub returns-clause-ok : goal.returns-clause-ok
returns-clause-ok g c = λ taken sent f.
    let r = c.in_ok-feed.ensures.ok taken sent f in
    Follows-handed sent r.0 _ _ _ r.1 r.2 c.in_ok-hand_on.ensures.ok.0 c.in_ok-hand_on.ensures.ok.1

pub returns-in_err-hand_on-clause-err : goal.returns-in_err-hand_on-clause-err
returns-in_err-hand_on-clause-err g c = λ taken sent f.
    let p = err_from_is_err_and c.from_residual-in_err-hand_on.result c.from_residual-in_err-hand_on.ensures.1 in
    let r = c.in_ok-feed.ensures.ok taken sent f in
    rw (p.1, p.2) (StopsWithin-handed sent r.0 _ _ _ _ [] r.1 r.2 c.in_err-hand_on.ensures.err c.in_err-hand_on.ensures.failed)
