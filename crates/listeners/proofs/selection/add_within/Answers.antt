use Rattle.std.proofs.Common.{◌<◌, ◌≤◌, ◌++◌, length, map, option_map, sym, ap, ◌∙◌, arith}
use Rattle.std.proofs.lemmas.List.{append-nil}
use Rattle.arena_snapshot.specs.Working.Change.{entries_of}
use Rattle.arena_snapshot.proofs.Ranks.{width-entries}
use Rattle.listeners.specs.Working.Items.{item_seen, marks_seen}
use Rattle.listeners.proofs.Listing.{between_none, turn_kept, turn_left, turn_none}
use Rattle.listeners.proofs.selection.add_within.Goals.{in-Some+then-hold+in_ok-push, in-Some+else-hold, in_default}
use Rattle.listeners.proofs.selection.add_within.Goals as goal

pub loop-i-init : goal.loop-i-init
loop-i-init c =
    let wide = width-entries c.args.view.now in
    let before = map item_seen c.args.items.now.items in
    sym (append-nil before) ∙ ap (λ rs. before ++ rs) (sym (between_none c.args.query.now (entries_of c.args.view.now) c.args.from (omega arith)))

pub loop-i-preserved : goal.loop-i-preserved
loop-i-preserved c =
    let cs = entries_of c.args.view.now in
    let query = c.args.query.now in
    let from = c.args.from in
    let i = c.loop-i.i in
    let before = c.args.items.now.items in
    let done = c.loop-i.items.items in
    let wide = width-entries c.args.view.now in
    let past : from ≤ i = omega arith in
    let inside : i < length cs = omega arith in
    elim c.match-item.branch [
      | in-Some+then-hold+in_ok-push w ↦
          ap (map item_seen) (ap (λ v. v.items) w.items-is ∙ w.in_ok-push.ensures.items)
          ∙ turn_kept query cs from i before done (marks_seen c.bounds-bounds.result) past inside c.loop-i.invariant c.bounds-bounds.ensures w.in-Some.item (ap (option_map item_seen) (sym w.in-Some.is) ∙ c.item.ensures) (sym w.hold.ensures ∙ w.if-hold.true)
      | in-Some+else-hold w ↦
          ap (λ v. map item_seen v.items) w.items-is
          ∙ turn_left query cs from i before done (marks_seen c.bounds-bounds.result) past inside c.loop-i.invariant c.bounds-bounds.ensures w.in-Some.item (ap (option_map item_seen) (sym w.in-Some.is) ∙ c.item.ensures) (sym w.hold.ensures ∙ w.if-hold.false)
      | in_default w ↦ absurd (turn_none query cs from i before done (marks_seen c.bounds-bounds.result) past inside c.loop-i.invariant c.bounds-bounds.ensures (ap (option_map item_seen) (sym w.in_default.is) ∙ c.item.ensures))
    ]
