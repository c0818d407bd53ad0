use Rattle.std.proofs.Common.{ap, ◌∙◌, Some}
use Rattle.tree_model.specs.Tree.{Tree}
use Rattle.arena_snapshot.specs.View.{node_or_null}
use Rattle.arena_snapshot.specs.declared.view.Patch.{Patch}
use Rattle.arena_snapshot.proofs.Behind.{entry_at_patch}
use Rattle.arena_snapshot.proofs.patches.patched_entry.Goals as goal

pub returns-in-Some : goal.returns-in-Some
returns-in-Some c =
    let held : Patch = c.in_ok-patch.patch.now in
    let at = c.in_ok-patch.ensures.lookup in
    ap (λ (u : Tree). Some (held.key.now, u)) c.share.ensures
    ∙ entry_at_patch (node_or_null c.args.base) c.args.patches.now c.args.width c.requires c.args.i c.if-i-width.false held c.in-Some.child at.3.0 at.1 c.if-patch-i.true c.in-Some.is
