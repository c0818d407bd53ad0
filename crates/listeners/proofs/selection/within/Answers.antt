use Rattle.std.proofs.Common.{◌++◌, sym, ap, ◌∙◌, subst, arith}
use Rattle.arena_snapshot.specs.Working.Change.{entries_of}
use Rattle.arena_snapshot.proofs.Ranks.{width-entries}
use Rattle.listeners.specs.Working.Reach.{ranks_between, IsStretch}
use Rattle.listeners.proofs.Enough.{enough_kept}
use Rattle.listeners.proofs.Listing.{looked_stretch}
use Rattle.listeners.proofs.selection.within.Goals as goal

pub loop-from-smaller : goal.loop-from-smaller
loop-from-smaller c =
    let wide = width-entries c.args.view.now in
    omega (arith, c.stretch-stretch.ensures.further, c.stretch-stretch.ensures.within, c.loop-from-test.true, c.width.ensures, c.width-in-loop-from.ensures)

pub loop-from-preserved : goal.loop-from-preserved
loop-from-preserved c =
    let cs = entries_of c.args.view.now in
    let stretch = subst (λ wide. IsStretch c.reach-reach.result c.loop-from.from wide c.stretch-stretch.result) (c.width-in-loop-from.ensures ∙ width-entries c.args.view.now) c.stretch-stretch.ensures in
    c.in_ok-add_within.ensures
    ∙ ap (λ rs. rs ++ ranks_between c.args.query.now cs c.stretch-stretch.result.from c.stretch-stretch.result.to) c.loop-from.invariant
    ∙ sym (looked_stretch c.args.query.now cs c.reach-reach.result c.loop-from.from c.stretch-stretch.result stretch)

pub returns : goal.returns
returns c =
    let wide = width-entries c.args.view.now in
    enough_kept c.args.query.now (entries_of c.args.view.now) c.reach-reach.result c.loop-from.items.items c.loop-from.from c.reach-reach.ensures c.loop-from.invariant (omega arith)
