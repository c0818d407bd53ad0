use Rattle.std.proofs.Common.{◌<◌, ◌++◌, ◌∷◌, [], sym, ap, ◌∙◌, subst, arith}
use Rattle.std.specs.List.{All}
use Rattle.std.specs.FinMap.{is_sorted}
use Rattle.std.proofs.lemmas.Result.{IfOk-weaker}
use Rattle.tree_model.specs.declared.limits.TheConstants.{MAX_DEPTH}
use Rattle.tree_model.specs.Key.{Key, key_cmp}
use Rattle.tree_model.specs.PathMap.{get, depth}
use Rattle.tree_model.specs.Tree.{Tree, null, IsLawful}
use Rattle.tree_model.specs.Children.{graft}
use Rattle.json_tree.proofs.Children.{graft-children}
use Rattle.json_tree.proofs.Nodes.{depth_within}
use Rattle.arena_snapshot.specs.View.{tree_of, IsKind}
use Rattle.arena_snapshot.specs.Working.Change.{entries_of}
use Rattle.arena_snapshot.proofs.Entries.{entry_at, entry_depth, entry_next, children_room}
use Rattle.arena_snapshot.proofs.Ranks.{width-entries}
use Rattle.arena_snapshot.proofs.Sums.{entries_sorted, null_from_entries}
use Rattle.arena_snapshot.proofs.Views.{root_of_patched}
use Rattle.arena_snapshot.proofs.Walks.{all_of}
use Rattle.arena_snapshot.proofs.copies.+copy_out.Goals as goal

pub copies-unreachable-requires : goal.copies-unreachable-requires
copies-unreachable-requires t c =
    let low = c.loop-i-test.true in
    let wide = c.width-width.ensures in
    let is = c.in_default.ensures ∙ entry_at (entries_of c.args.view.now) c.loop-i.i ([], null) (omega (arith, width-entries c.args.view.now)) in
    cc

pub copies-copy_out-requires : goal.copies-copy_out-requires
copies-copy_out-requires t c =
    let less = entry_depth c.args.view.now c.loop-i.i c.in-Some.key.now c.in-Some.child c.in-Some.ensures in
    (omega arith, tt)

pub copies-loop-i-preserved : goal.copies-loop-i-preserved
copies-loop-i-preserved t c =
    c.in_ok-push.ensures.items
    ∙ ap (λ child. c.loop-i.copies.items ++ child ∷ []) c.in_ok-child.ensures
    ∙ (λ j. c.loop-i.invariant j ++ (c.in_ok-copy.ensures j, c.in_ok-copy_out.ensures j) ∷ [])
    ∙ sym (entry_next c.args.view.now c.loop-i.i (c.in-Some.key.now, c.in-Some.child) c.in-Some.ensures)

pub copies-returns : goal.copies-returns
copies-returns t c =
    let all = c.loop-i-test.false in
    let wide = c.width-width.ensures in
    c.loop-i.invariant ∙ all_of c.loop-i.i (entries_of c.args.view.now) (omega (arith, width-entries c.args.view.now))

pub copy_out-of_children-requires-clause-some : goal.copy_out-of_children-requires-clause-some
copy_out-of_children-requires-clause-some t c = λ none.
    let root = ap (λ u. get u []) (sym c.view.view_is) ∙ ap (λ k. get (tree_of k) []) c.in-Patched.is ∙ root_of_patched c.in-Patched.field-0 (subst IsKind c.in-Patched.is c.view.invariant.parts) in
    c.view.invariant.some (c.view.view_is ∙ null_from_entries c.args.view.now root (sym c.in_ok-copies-in-Patched.ensures ∙ none))

pub copy_out-of_children-requires-clause-ascending : goal.copy_out-of_children-requires-clause-ascending
copy_out-of_children-requires-clause-ascending t c = ap (is_sorted key_cmp) c.in_ok-copies-in-Patched.ensures ∙ entries_sorted c.args.view.now

pub copy_out-of_children-requires-clause-room : goal.copy_out-of_children-requires-clause-room
copy_out-of_children-requires-clause-room t c =
    subst (λ es. All (λ (child : Key × Tree). depth child.1 < MAX_DEPTH) es) (sym c.in_ok-copies-in-Patched.ensures) (children_room c.args.view.now (depth_within c.args.view.now (subst IsLawful c.view.view_is c.view.invariant.lawful)))

pub copy_out-returns-in_ok-copies-in-Patched : goal.copy_out-returns-in_ok-copies-in-Patched
copy_out-returns-in_ok-copies-in-Patched t c =
    let root = ap (λ u. get u []) (sym c.view.view_is) ∙ ap (λ k. get (tree_of k) []) c.in-Patched.is ∙ root_of_patched c.in-Patched.field-0 (subst IsKind c.in-Patched.is c.view.invariant.parts) in
    IfOk-weaker c.of_children.result _ _ (λ node is. is ∙ ap graft c.in_ok-copies-in-Patched.ensures ∙ graft-children c.args.view.now root) c.of_children.ensures.tree
