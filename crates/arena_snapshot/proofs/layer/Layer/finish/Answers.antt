use Rattle.std.proofs.Common.{◌-◌, ◌^◌, min, Some, map, sym, ap, ◌∙◌, subst}
use Rattle.std.specs.Prelude.{◌≢◌}
use Rattle.tree_model.specs.Tree.{null, count, IsLawful}
use Rattle.tree_model.proofs.Existence.{non_null-some}
use Rattle.arena_snapshot.specs.View.{node_or_null}
use Rattle.arena_snapshot.specs.Working.Change.{changed}
use Rattle.arena_snapshot.specs.Working.Patches.{change_of, ArePatches, IsPatched}
use Rattle.arena_snapshot.specs.declared.view.Patched.{Patched as PatchedNode}
use Rattle.arena_snapshot.proofs.Laying.{no_child, some_child, counted}
use Rattle.arena_snapshot.proofs.layer.Layer.finish.Goals as goal

pub returns-then-sizes-eq0 : goal.returns-then-sizes-eq0
returns-then-sizes-eq0 c = no_child (node_or_null c.args.self.base) c.args.self.patches.items c.args.self.sizes c.requires.layer c.if-sizes-eq0.true

pub invariant_of-result : goal.invariant_of-result
invariant_of-result c =
    let t = node_or_null c.args.self.base in
    let same = c.into_bump_slice.ensures in
    let some = some_child t c.args.self.patches.items c.args.self.sizes c.requires.layer c.if-sizes-eq0.false in
    let all = counted t c.args.self.patches.items c.args.self.sizes c.requires.layer c.if-sizes-eq0.false in
    let placed = sym c.in_ok-node.ensures in
    record {
      parts = subst (λ (p : PatchedNode). IsPatched (node_or_null p.base) p.patches.now p.count p.width) placed (record {
        patches = subst (λ ps. ArePatches t ps c.args.self.sizes.width) (sym same) c.requires.layer.patches;
        count = all ∙ ap (λ ps. min (count (changed t (map change_of ps))) (2 ^ 64 - 1)) (sym same);
      });
      some = subst (λ (p : PatchedNode). changed (node_or_null p.base) (map change_of p.patches.now) ≢ null) placed (λ e. some (ap (λ ps. changed t (map change_of ps)) (sym same) ∙ e));
      lawful = subst (λ (p : PatchedNode). IsLawful (changed (node_or_null p.base) (map change_of p.patches.now))) placed (subst (λ ps. IsLawful (changed t (map change_of ps))) (sym same) c.requires.lawful);
    }

pub returns : goal.returns
returns c =
    let t = node_or_null c.args.self.base in
    let some = some_child t c.args.self.patches.items c.args.self.sizes c.requires.layer c.if-sizes-eq0.false in
    ap (λ (p : PatchedNode). Some (changed (node_or_null p.base) (map change_of p.patches.now))) c.in_ok-node.ensures ∙ ap (λ ps. Some (changed t (map change_of ps))) c.into_bump_slice.ensures ∙ sym (non_null-some (changed t (map change_of c.args.self.patches.items)) some)
