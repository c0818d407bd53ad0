use Rattle.std.proofs.Common.{[], ◌∷◌, ◌++◌, refl}
use Rattle.std.proofs.lemmas.Result.{err_from_is_err_and}
use Rattle.scripts.proofs.Sending.{Appends-refl}
use Rattle.scripts.proofs.Feeding.{Follows-line, StopsWithin-line, StopsWithin-part, KeepsFront-nil, ShowsFront-part}
use Rattle.scripts.proofs.script.Script.take_line.Goals as goal

pub returns-then-is_empty-clause-ok : goal.returns-then-is_empty-clause-ok
returns-then-is_empty-clause-ok g c = λ taken sent f.
    let part = c.args.part.now in
    let none = c.if-is_empty.ensures.0 refl in
    let shows = ShowsFront-part f part c.is_blank.result none c.is_blank.ensures in
    Follows-line f _ _ part c.requires.plain (KeepsFront-nil f none) (c.in_ok-answer.ensures.ok f.lines (f.rest ++ part) sent shows f.stands)

pub returns-in_err-answer-clause-err : goal.returns-in_err-answer-clause-err
returns-in_err-answer-clause-err g c = λ taken sent f.
    let p = err_from_is_err_and c.from_residual.result c.from_residual.ensures.1 in
    let part = c.args.part.now in
    let none = c.if-is_empty.ensures.0 refl in
    let shows = ShowsFront-part f part c.is_blank.result none c.is_blank.ensures in
    rw (p.1, p.2) (StopsWithin-line f c.in_err-answer.field-0.0 _ _ _ _ part c.requires.plain (c.in_err-answer.ensures.err f.lines (f.rest ++ part) sent shows f.stands))

pub returns-in_err-add-clause-err : goal.returns-in_err-add-clause-err
returns-in_err-add-clause-err g c = λ taken sent f.
    let p = err_from_is_err_and c.from_residual-in_err-add.result c.from_residual-in_err-add.ensures.1 in
    rw (p.1, p.2) (StopsWithin-part f c.requires.going _ _ (g.W.Sink.failed c.args.sink.now) (c.args.part.now ++ 10 ∷ []) (Appends-refl _))

pub returns-clause-ok : goal.returns-clause-ok
returns-clause-ok g c = λ taken sent f.
    Follows-line f _ _ c.args.part.now c.requires.plain c.in_ok-end_line.ensures.next (c.in_ok-end_line.ensures.ok f.lines (f.rest ++ c.args.part.now) sent (c.in_ok-add.ensures f.rest f.holds) f.stands)

pub returns-in_err-end_line-clause-err : goal.returns-in_err-end_line-clause-err
returns-in_err-end_line-clause-err g c = λ taken sent f.
    let p = err_from_is_err_and c.from_residual-in_err-end_line.result c.from_residual-in_err-end_line.ensures.1 in
    rw (p.1, p.2) (StopsWithin-line f c.in_err-end_line.field-0.0 _ _ _ _ c.args.part.now c.requires.plain (c.in_err-end_line.ensures.err f.lines (f.rest ++ c.args.part.now) sent (c.in_ok-add.ensures f.rest f.holds) f.stands))
