use Rattle.std.proofs.Common.{◌≡◌, ◌++◌, ◌∷◌, [], Some, None, IfOk, Option, map, take, get_or, sym, ap, ◌∙◌, subst}
use Rattle.std.specs.FinMap.{is_sorted}
use Rattle.std.proofs.lemmas.List.{map-append, get_or_default}
use Rattle.tree_model.specs.Key.{Key, key_cmp}
use Rattle.tree_model.specs.Tree.{Tree, non_null, IsLawful}
use Rattle.tree_model.proofs.Lookups.{get-null}
use Rattle.arena_snapshot.specs.View.{node_or_null}
use Rattle.arena_snapshot.specs.Working.Change.{changed, AllBefore}
use Rattle.arena_snapshot.specs.Working.Layer.{IsLayer}
use Rattle.arena_snapshot.specs.Working.Patches.{change_of}
use Rattle.arena_snapshot.specs.declared.layer.Layer.{Layer}
use Rattle.arena_snapshot.proofs.Keeping.{put, at_indices, behind_all, earlier, indices_next, kept_lawful, kept_is}
use Rattle.arena_snapshot.proofs.Runs.{append_nil}
use Rattle.arena_snapshot.proofs.Walks.{all_of}
use Rattle.arena_snapshot.proofs.selection.kept.Goals.{in-Some+in_ok-push, in_default}
use Rattle.arena_snapshot.proofs.selection.kept.Goals as goal

pub new-requires : goal.new-requires
new-requires c = get-null []

pub push-requires-clause-behind : goal.push-requires-clause-behind
push-requires-clause-behind c =
    subst (AllBefore c.in-Some.key.now) (sym c.loop-index.invariant.laid)
    (behind_all c.args.view.now (take c.loop-index.index-index c.args.indices.now) _ (c.in-Some.key.now, c.in-Some.child) (earlier c.args.indices.now c.loop-index.index-index 0 c.requires c.loop-index-test.true) c.in-Some.ensures)

pub loop-index-preserved : goal.loop-index-preserved
loop-index-preserved c =
    let i = c.loop-index.index-index in
    let q = get_or c.args.indices.now i 0 in
    let at = get_or_default c.args.indices.now i 0 q c.loop-index-test.true in
    let t = c.args.view.now in
    let indices = c.args.indices.now in
    elim c.match-entry_at.branch [
      | in-Some+in_ok-push w ↦
          let e : Key × Tree = (w.in-Some.key.now, w.in-Some.child) in
          record {
            base = ap (λ (x : Layer). x.base) w.layer-is ∙ w.in_ok-push.ensures.base ∙ c.loop-index.invariant.base;
            layer = subst (λ (x : Layer). IsLayer (node_or_null x.base) x.patches.items x.sizes) (sym w.layer-is) w.in_ok-push.ensures.layer;
            laid =
                ap (λ (x : Layer). map change_of x.patches.items) w.layer-is
                ∙ w.in_ok-push.ensures.changes
                ∙ ap (λ cs. cs ++ put e ∷ []) c.loop-index.invariant.laid
                ∙ sym (map-append put (at_indices t (take i indices)) (e ∷ []))
                ∙ ap (map put) (sym (indices_next t indices i q (Some e) c.loop-index-test.true at w.in-Some.ensures));
          }
      | in_default w ↦ record {
        base = ap (λ (x : Layer). x.base) w.layer-is ∙ c.loop-index.invariant.base;
        layer = subst (λ (x : Layer). IsLayer (node_or_null x.base) x.patches.items x.sizes) (sym w.layer-is) c.loop-index.invariant.layer;
        laid =
            ap (λ (x : Layer). map change_of x.patches.items) w.layer-is
            ∙ c.loop-index.invariant.laid
            ∙ sym (ap (map put) (indices_next t indices i q None c.loop-index-test.true at w.in_default.ensures ∙ append_nil (at_indices t (take i indices))));
      }
    ]

pub finish-requires-clause-lawful : goal.finish-requires-clause-lawful
finish-requires-clause-lawful c =
    let all = all_of c.loop-index.index-index c.args.indices.now c.loop-index-test.false in
    let laid = c.loop-index.invariant.laid ∙ ap (λ ps. map put (at_indices c.args.view.now ps)) all in
    let ordered = ap (is_sorted key_cmp) (sym laid) ∙ c.loop-index.invariant.layer.patches.changes.ascending in
    subst IsLawful (sym (λ j. changed (node_or_null (c.loop-index.invariant.base j)) (laid j))) (kept_lawful c.args.view.now c.args.indices.now c.law.ensures.lawful ordered)

pub returns : goal.returns
returns c =
    let all = all_of c.loop-index.index-index c.args.indices.now c.loop-index-test.false in
    let laid = c.loop-index.invariant.laid ∙ ap (λ ps. map put (at_indices c.args.view.now ps)) all in
    let ordered = ap (is_sorted key_cmp) (sym laid) ∙ c.loop-index.invariant.layer.patches.changes.ascending in
    subst (λ (t : Option Tree). IfOk c.finish.result (λ v. v ≡ t)) (ap non_null ((λ j. changed (node_or_null (c.loop-index.invariant.base j)) (laid j)) ∙ kept_is c.args.view.now c.args.indices.now ordered)) c.finish.ensures
