use Rattle.std.proofs.Common.{◌≡◌, ◌<◌, ◌≤◌, ◌-◌, ◌&&◌, ℕ, Bool, true, false, length, nat_le, [], sym, ap, ◌∙◌, arith}
use Rattle.arena_snapshot.specs.Working.Change.{entries_of}
use Rattle.arena_snapshot.proofs.Ranks.{width-entries}
use Rattle.listeners.specs.Selection.{Child, is_within}
use Rattle.listeners.specs.Working.Ahead.{count_ahead}
use Rattle.listeners.specs.Working.Items.{rank_seen, marks_seen}
use Rattle.listeners.proofs.Listing.{between_none}
use Rattle.listeners.proofs.Room.{used_up, taken, passed_by, tested, tested_from}
use Rattle.listeners.proofs.membership.room_left.Goals.{then-stands_ahead, else-stands_ahead}
use Rattle.listeners.proofs.membership.room_left.Goals as goal

pub loop-i-init : goal.loop-i-init
loop-i-init c =
    let wide = width-entries c.args.view.now in
    let none = ap (count_ahead c.args.limit (rank_seen c.args.item.now)) (between_none c.args.query.now (entries_of c.args.view.now) c.args.stretch.from (omega (arith, wide, c.requires.order, c.requires.within))) in
    omega (arith, none)

pub returns-then-left-eq0 : goal.returns-then-left-eq0
returns-then-left-eq0 c =
    let query = c.args.query.now in
    let cs = entries_of c.args.view.now in
    let from = c.args.stretch.from in
    let wide = width-entries c.args.view.now in
    used_up query.order cs (λ (e : ℕ × Child). nat_le from e.0 && is_within query e.1) c.args.limit (rank_seen c.args.item.now) c.args.room c.loop-i.i c.args.stretch.to (omega (arith, c.loop-i-test.true)) (omega (arith, wide, c.requires.within)) (sym c.if-left-eq0.true ∙ c.loop-i.invariant)

pub loop-i-preserved : goal.loop-i-preserved
loop-i-preserved c =
    let query = c.args.query.now in
    let cs = entries_of c.args.view.now in
    let from = c.args.stretch.from in
    let i = c.loop-i.i in
    let r = rank_seen c.args.item.now in
    let wide = width-entries c.args.view.now in
    let past : from ≤ i = omega arith in
    let within : i < length cs = omega (arith, wide, c.requires.within, c.loop-i-test.true) in
    let p : ℕ × Child → Bool = λ e. nat_le from e.0 && is_within query e.1 in
    let marks = marks_seen c.bounds-bounds.result in
    let here = tested_from query cs c.args.limit r i marks within c.bounds-bounds.ensures from c.stands_ahead.result past
    (tested query cs c.args.limit r i marks within c.bounds-bounds.ensures c.item.result c.stands_ahead.result c.item.ensures c.stands_ahead.ensures) in
    elim c.if-stands_ahead.branch [
      | then-stands_ahead w ↦ w.left-is ∙ taken query.order cs p c.args.limit r c.args.room c.loop-i.left i within (sym w.if-stands_ahead.true ∙ here) c.loop-i.invariant
      | else-stands_ahead w ↦ w.left-is ∙ passed_by query.order cs p c.args.limit r c.args.room c.loop-i.left i within (sym w.if-stands_ahead.false ∙ here) c.loop-i.invariant
    ]
