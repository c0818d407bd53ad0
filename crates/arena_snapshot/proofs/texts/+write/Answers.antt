use Rattle.std.proofs.Common.{◌∷◌, ◌++◌, [], sym, ap, ◌∙◌, subst, arith}
use Rattle.std.proofs.lemmas.Result.{on_ok_weaker}
use Rattle.json.specs.Token.{key}
use Rattle.tree_model.specs.PathMap.{get}
use Rattle.tree_model.specs.Tree.{null}
use Rattle.arena_snapshot.specs.View.{tree_of, IsKind}
use Rattle.arena_snapshot.specs.Working.Change.{entries_of}
use Rattle.arena_snapshot.proofs.Entries.{entry_at, entry_depth}
use Rattle.arena_snapshot.proofs.Ranks.{width-entries}
use Rattle.arena_snapshot.proofs.Tokens.{with_next, with_all, tokens_of_children}
use Rattle.arena_snapshot.proofs.Views.{root_of_patched}
use Rattle.arena_snapshot.proofs.texts.+write.Goals as goal

pub write_children-unreachable-requires : goal.write_children-unreachable-requires
write_children-unreachable-requires t c =
    let low = c.loop-i-test.true in
    let wide = c.width-i-end.ensures in
    let is = c.in_default.ensures ∙ entry_at (entries_of c.args.view.now) c.loop-i.i ([], null) (omega (arith, width-entries c.args.view.now)) in
    cc

pub write_children-write_tree-requires : goal.write_children-write_tree-requires
write_children-write_tree-requires t c =
    let less = entry_depth c.args.view.now c.loop-i.i c.in-Some.key.now c.in-Some.child c.in-Some.ensures in
    (omega arith, tt)

pub write_children-loop-i-preserved : goal.write_children-loop-i-preserved
write_children-loop-i-preserved t c =
    let es = entries_of c.args.view.now in
    let old = c.loop-i.out.tokens in
    let named = c.in_ok-key.ensures.ok ∙ ap (λ text. old ++ key text ∷ []) c.text.ensures.bytes in (
      c.write_tree.ensures.before ∙ c.in_ok-key.ensures.room.0 ∙ c.loop-i.invariant.0,
      with_next es c.loop-i.i (c.in-Some.key.now, c.in-Some.child) _ old _ _ c.in-Some.ensures c.loop-i.invariant.1 named c.in_ok-write_tree.ensures.tokens,
    )

pub write_children-returns-clause-tokens : goal.write_children-returns-clause-tokens
write_children-returns-clause-tokens t c =
    let es = entries_of c.args.view.now in
    let past = c.loop-i-test.false in
    let wide = c.width-i-end.ensures in
    let tokens = ap (λ ts. c.args.out.now.tokens ++ ts) (sym (tokens_of_children c.args.view.now c.requires c.law.ensures.some)) in
    on_ok_weaker c.end_object.result (λ closed. with_all es c.loop-i.i _ _ _ (omega (arith, width-entries c.args.view.now)) c.loop-i.invariant.1 closed ∙ tokens) c.end_object.ensures.ok

pub write_tree-write_children-requires : goal.write_tree-write_children-requires
write_tree-write_children-requires t c =
    let root = ap (λ u. get u []) (sym c.view.view_is) ∙ ap (λ k. get (tree_of k) []) c.in-Patched.is ∙ root_of_patched c.in-Patched.field-0 (subst IsKind c.in-Patched.is c.view.invariant.parts) in
    (omega arith, root)
