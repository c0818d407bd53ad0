use Rattle.std.proofs.Common.{length, sym, ap, ◌∙◌, arith}
use Rattle.tree_model.specs.Tree.{lone}
use Rattle.json_tree.specs.Leaf.{primitive_of}
use Rattle.json_tree.proofs.Children.{lone-root, graft-children}
use Rattle.tree_model.specs.Children.{graft}
use Rattle.arena_snapshot.specs.Working.Change.{entries_of}
use Rattle.arena_snapshot.proofs.Entries.{entry_depth, same_entries_at}
use Rattle.arena_snapshot.proofs.Ranks.{width-entries}
use Rattle.arena_snapshot.proofs.Tests.{on_true, from_true}
use Rattle.arena_snapshot.proofs.sameness.+same.Goals as goal

pub have_same_child-same-requires : goal.have_same_child-same-requires
have_same_child-same-requires t c =
    let less = entry_depth c.args.view.now c.args.i c.in-Some.key.now c.in-Some.child c.in-Some.ensures in
    (omega arith, tt)

pub have_same_children-returns-then-width-clause-differs : goal.have_same_children-returns-then-width-clause-differs
have_same_children-returns-then-width-clause-differs t c = λ e.
    let same = ap length e in
    let wide = c.width-width.ensures in
    let other = c.width.ensures in
    let not_same = c.if-width.true in
    absurd (omega (arith, width-entries c.args.view.now, width-entries c.args.other.now))

pub have_same_children-returns-clause-same : goal.have_same_children-returns-clause-same
have_same_children-returns-clause-same t c =
    let wide = c.width-width.ensures in
    let other = c.width.ensures in
    let same = c.if-width.false in
    let all = c.loop-i-test.false in
    same_entries_at (entries_of c.args.view.now) (entries_of c.args.other.now) (omega (arith, width-entries c.args.view.now, width-entries c.args.other.now)) (λ j low. c.loop-i.invariant j (let room = width-entries c.args.view.now in omega arith))

pub same-returns-in-Some-Some-clause-same : goal.same-returns-in-Some-Some-clause-same
same-returns-in-Some-Some-clause-same t c = on_true _ _ (λ yes.
    let v = primitive_of c.in-Some-Some.leaf.now in
    let w = primitive_of c.in-Some-Some.other_leaf.now in
    sym (lone-root c.args.view.now v c.law.ensures.lawful.tree (sym c.in-Some-Some.ensures))
    ∙ ap lone (from_true _ _ c.is_same_leaf.ensures.same yes)
    ∙ lone-root c.args.other.now w c.law-2.ensures.lawful.tree (sym c.in-Some-Some.ensures'))

pub same-returns-in-None-None-clause-same : goal.same-returns-in-None-None-clause-same
same-returns-in-None-None-clause-same t c = on_true _ _ (λ yes.
    sym (graft-children c.args.view.now (sym c.in-None-None.ensures))
    ∙ ap graft (from_true _ _ c.have_same_children.ensures.same yes)
    ∙ graft-children c.args.other.now (sym c.in-None-None.ensures'))
