use Rattle.std.proofs.Common.{◌≡◌, ◌++◌, ◌∷◌, [], Some, map, take, length, sym, ap, ◌∙◌, subst, refl, arith}
use Rattle.std.specs.FinMap.{is_sorted}
use Rattle.std.proofs.lemmas.List.{map-append}
use Rattle.std.proofs.lemmas.Result.{IfOk-weaker}
use Rattle.tree_model.specs.Key.{Key, key_cmp}
use Rattle.tree_model.specs.PathMap.{get}
use Rattle.tree_model.specs.Tree.{Tree, non_null, IsLawful}
use Rattle.tree_model.specs.Draft.{fixed, moment, tree_at}
use Rattle.tree_model.proofs.Choices.{none_is_not_some}
use Rattle.tree_model.proofs.Lookups.{get-null}
use Rattle.tree_model.proofs.Drafts.{at_alike, child_keys-at, IsLawful-at}
use Rattle.tree_model.proofs.Writes.{non_null-at}
use Rattle.json_tree.specs.Leaf.{primitive_of}
use Rattle.json_tree.specs.Draft.{part_of}
use Rattle.json_tree.proofs.Building.{tree_from_some}
use Rattle.arena_snapshot.specs.View.{node_or_null}
use Rattle.arena_snapshot.specs.Working.Change.{changed, AllBefore, entries_of}
use Rattle.arena_snapshot.specs.Working.Layer.{IsLayer}
use Rattle.arena_snapshot.specs.Working.Patches.{change_of}
use Rattle.arena_snapshot.specs.declared.layer.Layer.{Layer}
use Rattle.arena_snapshot.proofs.Drafts.{fixed_root, moment_root, child_less_deep, children_are, before_entry, child_there}
use Rattle.arena_snapshot.proofs.Entries.{entry_next}
use Rattle.arena_snapshot.proofs.Keeping.{put}
use Rattle.arena_snapshot.proofs.Sums.{entries_sorted}
use Rattle.arena_snapshot.proofs.Ranks.{width-entries}
use Rattle.arena_snapshot.proofs.Walks.{all_of}
use Rattle.arena_snapshot.proofs.moments.+moments.Goals.{children_at-in-Some+in_ok-view+in_ok-push, children_at-in_default}
use Rattle.arena_snapshot.proofs.moments.+moments.Goals as goal

-- ---- a part alone

pub at_moment-returns-then-is_fixed : goal.at_moment-returns-then-is_fixed
at_moment-returns-then-is_fixed t c = c.stored.ensures ∙ c.at_zero.ensures ∙ at_alike 0 c.args.now c.args.draft.now (c.is_fixed.ensures.fixed c.if-is_fixed.true)

pub at_moment-returns-in-Some-Moment : goal.at_moment-returns-in-Some-Moment
at_moment-returns-in-Some-Moment t c =
    let d = c.args.draft.now in
    let root : get d [] ≡ Some moment = sym c.in-Some-Moment.ensures ∙ ap (λ p. Some (part_of p)) c.in-Some-Moment.field-0-is in
    IfOk-weaker c.number_view.result _ _ (λ view is. is ∙ moment_root c.args.now d c.law.ensures.lawful c.requires root) c.number_view.ensures

pub at_moment-returns-in-Some-Fixed : goal.at_moment-returns-in-Some-Fixed
at_moment-returns-in-Some-Fixed t c =
    let d = c.args.draft.now in
    let v = primitive_of c.in-Some-Fixed.field-0-0.now in
    let root : get d [] ≡ Some (fixed v) = sym c.in-Some-Fixed.ensures ∙ ap (λ p. Some (part_of p)) c.in-Some-Fixed.field-0-is in
    c.stored-in-Some-Fixed.ensures ∙ c.at_zero-in-Some-Fixed.ensures ∙ at_alike 0 c.args.now d (fixed_root c.args.now d c.law.ensures.lawful v root)

-- ---- child by child

pub children_at-new-requires : goal.children_at-new-requires
children_at-new-requires t c = get-null []

pub children_at-at_moment-requires : goal.children_at-at_moment-requires
children_at-at_moment-requires t c =
    let less = child_less_deep c.args.now c.args.draft.now c.loop-i.i c.in-Some.key.now c.in-Some.child (c.in-Some.ensures c.args.now) in
    (omega arith, c.requires.moment)

pub children_at-push-requires-clause-behind : goal.children_at-push-requires-clause-behind
children_at-push-requires-clause-behind t c =
    let u = tree_at c.args.now c.args.draft.now in
    subst (AllBefore c.in-Some.key.now) (sym c.loop-i.invariant.2)
    (before_entry (entries_of u) c.loop-i.i (c.in-Some.key.now, tree_at c.args.now c.in-Some.child) (entries_sorted u) (c.in-Some.ensures c.args.now))

pub children_at-loop-i-preserved : goal.children_at-loop-i-preserved
children_at-loop-i-preserved t c =
    let i = c.loop-i.i in
    let now = c.args.now in
    let u = tree_at now c.args.draft.now in
    let es = entries_of u in
    elim c.match-entry_at.branch [
      | children_at-in-Some+in_ok-view+in_ok-push w ↦
          let e : Key × Tree = (w.in-Some.key.now, tree_at now w.in-Some.child) in (
            ap (λ (x : Layer). x.base) w.layer-is ∙ w.in_ok-push.ensures.base ∙ c.loop-i.invariant.0,
            subst (λ (x : Layer). IsLayer (node_or_null x.base) x.patches.items x.sizes) (sym w.layer-is) w.in_ok-push.ensures.layer,
            ap (λ (x : Layer). map change_of x.patches.items) w.layer-is
                ∙ w.in_ok-push.ensures.changes
                ∙ (λ j. c.loop-i.invariant.2 j ++ (w.in-Some.key.now, Some (w.in_ok-view.ensures j)) ∷ [])
                ∙ sym (map-append put (take i es) (e ∷ []))
                ∙ ap (map put) (sym (entry_next u i e (w.in-Some.ensures now))),
          )
      | children_at-in_default w ↦ absurd (child_there now c.args.draft.now i (let wide = c.width-i-end.ensures in let low = c.loop-i-test.true in omega arith) (w.in_default.ensures now))
    ]

pub children_at-finish-requires-clause-lawful : goal.children_at-finish-requires-clause-lawful
children_at-finish-requires-clause-lawful t c =
    let now = c.args.now in
    let d = c.args.draft.now in
    let u = tree_at now d in
    let past = c.loop-i-test.false in
    let wide = c.width-i-end.ensures in
    let all = all_of c.loop-i.i (entries_of u) (let long = width-entries u in let same = ap length (child_keys-at now d) in omega arith) in
    let laid = c.loop-i.invariant.2 ∙ ap (map put) all in
    let ordered = ap (is_sorted key_cmp) (sym laid) ∙ c.loop-i.invariant.1.patches.changes.ascending in
    subst IsLawful (sym ((λ j. changed (node_or_null (c.loop-i.invariant.0 j)) (laid j)) ∙ children_are now d c.requires.root ordered)) (IsLawful-at now d c.requires.moment c.law.ensures.lawful)

pub children_at-unreachable-requires : goal.children_at-unreachable-requires
children_at-unreachable-requires t c =
    let now = c.args.now in
    let d = c.args.draft.now in
    let u = tree_at now d in
    let past = c.loop-i-test.false in
    let wide = c.width-i-end.ensures in
    let all = all_of c.loop-i.i (entries_of u) (let long = width-entries u in let same = ap length (child_keys-at now d) in omega arith) in
    let laid = c.loop-i.invariant.2 ∙ ap (map put) all in
    let ordered = ap (is_sorted key_cmp) (sym laid) ∙ c.loop-i.invariant.1.patches.changes.ascending in
    let is = (λ j. changed (node_or_null (c.loop-i.invariant.0 j)) (laid j)) ∙ children_are now d c.requires.root ordered in
    none_is_not_some _ (non_null-at now d c.law.ensures.some ∙ ap non_null (sym is) ∙ sym c.in_ok-view-2.ensures ∙ c.in-None.is) refl

pub children_at-returns : goal.children_at-returns
children_at-returns t c =
    let now = c.args.now in
    let d = c.args.draft.now in
    let u = tree_at now d in
    let past = c.loop-i-test.false in
    let wide = c.width-i-end.ensures in
    let all = all_of c.loop-i.i (entries_of u) (let long = width-entries u in let same = ap length (child_keys-at now d) in omega arith) in
    let laid = c.loop-i.invariant.2 ∙ ap (map put) all in
    let ordered = ap (is_sorted key_cmp) (sym laid) ∙ c.loop-i.invariant.1.patches.changes.ascending in
    let is = (λ j. changed (node_or_null (c.loop-i.invariant.0 j)) (laid j)) ∙ children_are now d c.requires.root ordered in
    (tree_from_some u c.in-Some-2.view (sym c.in-Some-2.is ∙ c.in_ok-view-2.ensures ∙ ap non_null is)).0
