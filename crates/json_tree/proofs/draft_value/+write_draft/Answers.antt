use Rattle.std.proofs.Common.{◌≡◌, ◌≢◌, ◌+◌, ◌≤◌, List, [], ◌∷◌, Some, option_map, is_some, length, take, map, sym, ap, ◌∙◌, subst, refl, arith}
use Rattle.std.proofs.lemmas.List.{take_all}
use Rattle.std.proofs.lemmas.Result.{IfOk-weaker}
use Rattle.std.specs.FinMap as map_of
use Rattle.serde_json.specs.Data.{object}
use Rattle.serde_json.specs.View.{view, members_view}
use Rattle.serde_json.proofs.Views.{view-Object}
use Rattle.tree_model.specs.Key.{Key}
use Rattle.tree_model.specs.PathMap.{sub, depth}
use Rattle.tree_model.specs.Tree.{children}
use Rattle.tree_model.specs.Draft.{Draft, null_draft, moment, fixed}
use Rattle.tree_model.proofs.Existence.{non_null-some}
use Rattle.json_tree.specs.Leaf.{primitive_of}
use Rattle.json_tree.specs.Json.{members_of}
use Rattle.json_tree.specs.Draft.{part_of, value_of_draft}
use Rattle.json_tree.proofs.Building.{tree_from_some}
use Rattle.json_tree.proofs.Children.{are_children, depth-sub, graft-children, children_sorted, child_is_there, length-child_keys}
use Rattle.json_tree.proofs.Written.{next_written_by}
use Rattle.json_tree.proofs.DraftWritten.{drafted_member, value_of_draft-root, value_of_draft-graft}
use Rattle.json_tree.proofs.draft_value.+write_draft.Goals as goal

pub write_draft-write_members-requires : goal.write_draft-write_members-requires
write_draft-write_members-requires t c = (omega arith, tt)

pub write_draft-returns-in-Some-Fixed : goal.write_draft-returns-in-Some-Fixed
write_draft-returns-in-Some-Fixed t c =
    IfOk-weaker c.write_leaf.result _ _ (λ value is. is ∙ sym (value_of_draft-root c.args.draft.now (fixed (primitive_of c.in-Some-Fixed.leaf.now)) (sym c.in-Some-Fixed.ensures ∙ ap (λ p. Some (part_of p)) c.in-Some-Fixed.field-0-is))) c.write_leaf.ensures

pub write_draft-returns-in-Some-Moment : goal.write_draft-returns-in-Some-Moment
write_draft-returns-in-Some-Moment t c =
    IfOk-weaker c.write_form.result _ _ (λ value is. is ∙ sym (value_of_draft-root c.args.draft.now moment (sym c.in-Some-Moment.ensures ∙ ap (λ p. Some (part_of p)) c.in-Some-Moment.field-0-is))) c.write_form.ensures

pub write_draft-returns-in_ok-write_members-in-None : goal.write_draft-returns-in_ok-write_members-in-None
write_draft-returns-in_ok-write_members-in-None t c =
    let d = c.args.draft.now in
    let root = sym c.in-None.ensures in
    view-Object c.in_ok-write_members-in-None.field-0 ∙ ap object c.in_ok-write_members-in-None.ensures
    ∙ sym (value_of_draft-graft (map_of.entries (children d)) (are_children d root c.requires)) ∙ ap value_of_draft (graft-children d root)

pub write_members-loop-index-init : goal.write_members-loop-index-init
write_members-loop-index-init t c = ap members_view c.new-members.ensures.empty

pub write_members-unwrap-child-requires : goal.write_members-unwrap-child-requires
write_members-unwrap-child-requires t c =
    let there = child_is_there c.args.draft.now c.loop-index.index c.unwrap-key.result.now (ap (option_map (λ key. key.now)) (sym c.unwrap-key.ensures) ∙ c.key_at.ensures) in
    let some = subst (λ k. sub c.args.draft.now (k ∷ []) ≢ null_draft) (sym c.text.ensures.bytes) there.some in
    ap is_some (c.child.ensures ∙ non_null-some _ some)

pub write_members-write_draft-requires : goal.write_members-write_draft-requires
write_members-write_draft-requires t c =
    let child = tree_from_some (sub c.args.draft.now (c.text.result.now ∷ [])) c.unwrap-child.result (sym c.unwrap-child.ensures ∙ c.child.ensures) in
    let less = depth-sub c.args.draft.now c.text.result.now child.1 in
    let same = ap depth child.0 in
    (omega arith, λ none. child.1 (sym child.0 ∙ none))

pub write_members-loop-index-preserved : goal.write_members-loop-index-preserved
write_members-loop-index-preserved t c =
    let d = c.args.draft.now in
    let k = c.unwrap-key.result.now in
    let there = child_is_there d c.loop-index.index k (ap (option_map (λ key. key.now)) (sym c.unwrap-key.ensures) ∙ c.key_at.ensures) in
    let child = tree_from_some (sub d (c.text.result.now ∷ [])) c.unwrap-child.result (sym c.unwrap-child.ensures ∙ c.child.ensures) in
    let e : Key × Draft = (k, sub d (k ∷ [])) in
    next_written_by value_of_draft (map_of.entries (children d)) c.loop-index.index e c.text-in-loop-index.result.now (view c.in_ok-write_draft.field-0) (members_view c.loop-index.members.entries) (members_view c.put.new.map.entries) (children_sorted d) there.within (sym (there.at e)) c.text-in-loop-index.ensures.bytes (c.in_ok-write_draft.ensures ∙ ap value_of_draft (child.0 ∙ ap (λ l. sub d (l ∷ [])) c.text.ensures.bytes)) c.loop-index.invariant c.in_ok-put.ensures.ok

pub write_members-returns : goal.write_members-returns
write_members-returns t c =
    let es = map_of.entries (children c.args.draft.now) in
    let width = c.width-index-end.ensures ∙ length-child_keys c.args.draft.now in
    let far : length es ≤ c.loop-index.index = let past = c.loop-index-test.false in omega arith in
    c.loop-index.invariant ∙ ap (λ (cs : List (Key × Draft)). members_of (map drafted_member cs)) (take_all c.loop-index.index es far)
