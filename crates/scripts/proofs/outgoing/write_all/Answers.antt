use Rattle.std.proofs.Common.{◌∙◌}
use Rattle.std.proofs.lemmas.Result.{err_from_is_err_and}
use Rattle.scripts.proofs.Sending.{front_written, rest_lost}
use Rattle.scripts.proofs.outgoing.write_all.Goals as goal

pub loop-at-preserved : goal.loop-at-preserved
loop-at-preserved g c =
    let i = c.loop-at.invariant in
    let s = front_written _ _ _ _ _ _ i.0 c.in_ok-at.ensures.count i.1 c.in_ok-at.ensures.bytes in
    (s.0, s.1, c.in_ok-at.ensures.failed ∙ i.2)

pub returns-in_err-at-clause-err : goal.returns-in_err-at-clause-err
returns-in_err-at-clause-err g c =
    let p = err_from_is_err_and c.from_residual.result c.from_residual.ensures.1 in
    rw p.1 (rest_lost _ _ _ _ _ c.loop-at.invariant.1 c.in_err-at.ensures.bytes)
