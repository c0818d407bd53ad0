use Rattle.std.proofs.Common.{◌≡◌, length, sym, ap, ◌∙◌, refl, subst, arith}
use Rattle.std.specs.Prelude.{nat_lt}
use Rattle.arena_snapshot.specs.Working.Change.{entries_of}
use Rattle.arena_snapshot.proofs.Ranks.{width-entries}
use Rattle.listeners.specs.Working.Items.{rank_seen}
use Rattle.listeners.specs.Working.Ranks.{is_kept_of}
use Rattle.listeners.specs.Working.Reach.{IsStretch}
use Rattle.listeners.proofs.Enough.{enough_same}
use Rattle.listeners.proofs.Listing.{looked_upto}
use Rattle.listeners.proofs.Room.{kept_with_room, stretch_counted}
use Rattle.listeners.proofs.membership.are_few_ahead.Goals as goal

pub loop-from-smaller : goal.loop-from-smaller
loop-from-smaller c =
    let wide = width-entries c.args.view.now in
    omega (arith, c.stretch-stretch.ensures.further, c.stretch-stretch.ensures.within, c.loop-from-test.true, c.width.ensures, c.width-in-loop-from.ensures)

pub loop-from-preserved : goal.loop-from-preserved
loop-from-preserved c =
    let cs = entries_of c.args.view.now in
    let stretch = subst (λ wide. IsStretch c.reach-reach.result c.loop-from.from wide c.stretch-stretch.result) (c.width-in-loop-from.ensures ∙ width-entries c.args.view.now) c.stretch-stretch.ensures in
    stretch_counted c.args.query.now cs c.args.limit (rank_seen c.args.item.now) c.reach-reach.result c.loop-from.from c.stretch-stretch.result c.loop-from.room c.room_left-room.result stretch c.loop-from.invariant c.room_left-room.ensures

pub returns : goal.returns
returns c =
    let query = c.args.query.now in
    let cs = entries_of c.args.view.now in
    let r = rank_seen c.args.item.now in
    let wide = width-entries c.args.view.now in
    let looked = looked_upto query cs c.reach-reach.result c.loop-from.from in
    kept_with_room c.args.limit looked r c.loop-from.room (nat_lt 0 c.loop-from.room) c.loop-from.invariant refl
    ∙ (λ i. is_kept_of (c.requires.first i) (c.requires.last i) looked r)
    ∙ enough_same query cs c.reach-reach.result c.loop-from.from r c.reach-reach.ensures (omega (arith, c.loop-from-test.false, c.width.ensures, wide))
