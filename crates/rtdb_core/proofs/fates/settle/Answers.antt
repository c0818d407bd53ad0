use Rattle.std.proofs.Common.{◌≡◌, ◌∙◌, arith, Option, sym, ap, subst}
use Rattle.std.specs.Prelude.{IfSome, slice_get, slice_set}
use Rattle.rtdb_core.specs.Working.Fates.{fated, front}
use Rattle.rtdb_core.specs.declared.fates.Fate.{Fate}
use Rattle.rtdb_core.proofs.Fatings.{begins, is_set, is_kept, changed_at, goes_on, ends}
use Rattle.rtdb_core.proofs.fates.settle.Goals as goal
use Rattle.rtdb_core.proofs.fates.settle.Goals.{in-Some, in_default}

pub loop-index-init : goal.loop-index-init
loop-index-init c = begins c.args.docket.place c.args.docket.decisions.now c.args.table.now

pub change-requires : goal.change-requires
change-requires c = omega (arith, c.loop-index.invariant.long, c.loop-index-test.true, c.len-index-end.ensures)

pub loop-index-preserved : goal.loop-index-preserved
loop-index-preserved c =
    goes_on c.args.docket.place c.args.docket.decisions.now c.args.table.now c.loop-index.index c.loop-index.rest.place c.behind-rest.result.place c.loop-index.rest.decisions.now c.behind-rest.result.decisions.now c.loop-index.table c.match-front.table c.loop-index.invariant
    (omega (arith, c.loop-index-test.true, c.len-index-end.ensures))
    (elim c.match-front.branch [
      | in-Some w ↦ w.table-is ∙ is_set (fated (front c.loop-index.rest.place c.loop-index.rest.decisions.now)) c.loop-index.table w.change.new.table c.loop-index.index (omega (arith, c.loop-index.invariant.long, c.loop-index-test.true, c.len-index-end.ensures))
          (subst (λ (o : Option Fate). IfSome (slice_get c.loop-index.table c.loop-index.index) (λ l. w.change.new.table ≡ slice_set c.loop-index.table c.loop-index.index (fated o l))) (sym w.in-Some.is ∙ c.front.ensures) w.change.ensures)
      | in_default w ↦ w.table-is ∙ is_kept c.loop-index.table c.loop-index.index ∙ ap (λ (o : Option Fate). changed_at (fated o) c.loop-index.index c.loop-index.table) (sym w.in_default.is ∙ c.front.ensures)
    ])
    c.behind-rest.ensures.place
    c.behind-rest.ensures.decisions

pub returns-clause-made : goal.returns-clause-made
returns-clause-made c = (ends c.args.docket.place c.args.docket.decisions.now c.args.table.now c.loop-index.index c.loop-index.rest.place c.loop-index.rest.decisions.now c.loop-index.table c.loop-index.invariant (omega (arith, c.len-index-end.ensures, c.loop-index-test.false))).0

pub returns-clause-place : goal.returns-clause-place
returns-clause-place c = ap (λ p. p.0) (ends c.args.docket.place c.args.docket.decisions.now c.args.table.now c.loop-index.index c.loop-index.rest.place c.loop-index.rest.decisions.now c.loop-index.table c.loop-index.invariant (omega (arith, c.len-index-end.ensures, c.loop-index-test.false))).1

pub returns-clause-left : goal.returns-clause-left
returns-clause-left c = ap (λ p. p.1) (ends c.args.docket.place c.args.docket.decisions.now c.args.table.now c.loop-index.index c.loop-index.rest.place c.loop-index.rest.decisions.now c.loop-index.table c.loop-index.invariant (omega (arith, c.len-index-end.ensures, c.loop-index-test.false))).1
