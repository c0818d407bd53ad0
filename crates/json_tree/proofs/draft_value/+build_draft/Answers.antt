use Rattle.std.proofs.Common.{◌≡◌, ◌+◌, ◌^◌, ◌<◌, ◌≤◌, Some, drop, length, string_bytes, sym, ap, ◌∙◌, subst, arith}
use Rattle.std.specs.FinMap.{is_sorted}
use Rattle.std.specs.List.{All}
use Rattle.std.proofs.lemmas.Result.{IfOk-weaker}
use Rattle.std.proofs.lemmas.Grind.{common_steps}
use Rattle.serde_json.specs.View.{view, number_view, items_view, members_view}
use Rattle.serde_json.proofs.Views.{view-Array, view-Object}
use Rattle.serde_json.proofs.value.Value.TheLaws.{the_size}
use denote.Param.Weighed.{most, at_most}
use Rattle.tree_model.specs.declared.limits.TheConstants.{MAX_DEPTH}
use Rattle.tree_model.specs.Key.{key_cmp}
use Rattle.tree_model.specs.PathMap.{depth}
use Rattle.tree_model.specs.Tree.{non_null}
use Rattle.tree_model.specs.Children.{graft}
use Rattle.json_tree.specs.Json.{of_json}
use Rattle.json_tree.specs.Draft.{part_in, filled, draft_of_json}
use Rattle.json_tree.specs.Working.Levels.{levels}
use Rattle.json_tree.specs.Working.Members.{members_at, children_of}
use Rattle.tree_model.specs.Draft.{as_draft}
use Rattle.json_tree.proofs.Values.{view-Null, view-Bool, view-Number, view-String}
use Rattle.json_tree.proofs.Lists.{all_from_recursion}
use Rattle.json_tree.proofs.Members.{graft-children_of, ascending_children}
use Rattle.json_tree.proofs.Building.{built_end, next_lawful}
use Rattle.json_tree.proofs.Arrays.{array_ascending, array_tree}
use Rattle.json_tree.proofs.Drafting.{draft_item_next, next_draft_room, part_in_other, filled_other, ItemsDrafted, draft_item_none, draft_item_some, draft_member_none, draft_member_some, drafts_have_room, draft_array_room, draft_form, null_draft, boolean_draft, number_draft, string_draft}
use Rattle.json_tree.proofs.draft_value.+build_draft.Goals as goal
use Rattle.json_tree.proofs.draft_value.+build_draft.Goals.{build_draft_items-in-Some+in_ok-of_index+in_ok-push, build_draft_items-in_default}

-- ---- a value that has no others in it

pub build_draft-fixed-requires-clause-fixed : goal.build_draft-fixed-requires-clause-fixed
build_draft-fixed-requires-clause-fixed t c = subst (λ d. as_draft (of_json d) ≡ draft_of_json d) (sym (ap view c.in-Null.is ∙ view-Null)) null_draft

pub build_draft-fixed-requires-in-Bool-clause-fixed : goal.build_draft-fixed-requires-in-Bool-clause-fixed
build_draft-fixed-requires-in-Bool-clause-fixed t c = subst (λ d. as_draft (of_json d) ≡ draft_of_json d) (sym (ap view c.in-Bool.is ∙ view-Bool c.in-Bool.field-0)) (boolean_draft c.in-Bool.field-0)

pub build_draft-fixed-requires-in-Number-clause-fixed : goal.build_draft-fixed-requires-in-Number-clause-fixed
build_draft-fixed-requires-in-Number-clause-fixed t c = subst (λ d. as_draft (of_json d) ≡ draft_of_json d) (sym (ap view c.in-Number.is ∙ view-Number c.in-Number.field-0)) (number_draft (number_view c.in-Number.field-0))

pub build_draft-fixed-requires-in-String-clause-fixed : goal.build_draft-fixed-requires-in-String-clause-fixed
build_draft-fixed-requires-in-String-clause-fixed t c = subst (λ d. as_draft (of_json d) ≡ draft_of_json d) (sym (ap view c.in-String.is ∙ view-String c.in-String.field-0)) (string_draft (string_bytes c.in-String.field-0))

-- ---- an array

pub build_draft_items-build_draft-requires : goal.build_draft_items-build_draft-requires
build_draft_items-build_draft-requires t c =
    let vs = c.deref-item-items.result.now in
    let v = c.item-item.result in
    let i = c.loop-index.index in
    let within : i < length vs = omega arith in
    let less = at_most the_size vs i v within in
    let here = ap the_size c.item-item.is in
    let measured = c.decreases in
    let same = ap (most the_size) c.deref-item-items.ensures.value in
    let next = draft_item_next c.loop-index.children.items (children_of part_in (members_at 0 (items_view c.args.items.now.items))) vs i v within c.item-item.is c.loop-index.invariant in
    (omega arith, (next_lawful _ _ _ _ _ _ next, next_draft_room _ _ _ _ (view v) _ next))

pub build_draft-parent-requires-clause-ascending : goal.build_draft-parent-requires-clause-ascending
build_draft-parent-requires-clause-ascending t c =
    let vs = c.in-Array.items.items in
    let short : length vs < 2 ^ 64 = grind (arith, common_steps) in
    array_ascending part_in vs c.in_ok-children-in-Array.children.items c.sort.new.children.items c.in_ok-children-in-Array.ensures c.sort.ensures.permutation short c.sort.ensures.ascending

pub build_draft-parent-requires-clause-room : goal.build_draft-parent-requires-clause-room
build_draft-parent-requires-clause-room t c =
    let vs = c.in-Array.items.items in
    let short : length vs < 2 ^ 64 = grind (arith, common_steps) in
    draft_array_room vs c.in_ok-children-in-Array.children.items c.sort.new.children.items c.in_ok-children-in-Array.ensures c.sort.ensures.permutation short
    (subst (λ d. levels (filled d) ≤ MAX_DEPTH + 1) (ap view c.in-Array.is ∙ view-Array c.in-Array.items) c.requires.room)

pub build_draft-returns-in_ok-children-in-Array : goal.build_draft-returns-in_ok-children-in-Array
build_draft-returns-in_ok-children-in-Array t c =
    let vs = c.in-Array.items.items in
    let short : length vs < 2 ^ 64 = grind (arith, common_steps) in
    let draft = array_tree part_in vs c.in_ok-children-in-Array.children.items c.sort.new.children.items c.in_ok-children-in-Array.ensures c.sort.ensures.permutation short in
    IfOk-weaker c.parent.result _ _ (λ node is. is ∙ ap non_null (draft ∙ ap draft_of_json (sym (ap view c.in-Array.is ∙ view-Array c.in-Array.items)))) c.parent.ensures

-- ---- an object

pub build_draft-parent-requires-else-is_form-clause-room : goal.build_draft-parent-requires-else-is_form-clause-room
build_draft-parent-requires-else-is_form-clause-room t c =
    let ms = members_view c.in-Object.members.entries in
    let other = sym c.is_form.ensures ∙ c.if-is_form.false in
    let room = subst (λ n. n ≤ MAX_DEPTH + 1) (ap (λ d. levels (filled d)) (ap view c.in-Object.is ∙ view-Object c.in-Object.members) ∙ ap levels (filled_other ms other)) c.requires.room in
    subst (λ cs. All (λ child. depth child.1 < MAX_DEPTH) cs) (sym c.in_ok-build_draft_members-in-Object.ensures.children) (all_from_recursion (λ child. depth child.1 < MAX_DEPTH) _ (drafts_have_room ms room))

pub build_draft-returns-in_ok-moment-in-Object : goal.build_draft-returns-in_ok-moment-in-Object
build_draft-returns-in_ok-moment-in-Object t c =
    let ms = members_view c.in-Object.members.entries in
    ap Some c.in_ok-moment-in-Object.ensures ∙ draft_form ms (sym c.is_form.ensures ∙ c.if-is_form.true) ∙ ap (λ d. non_null (draft_of_json d)) (sym (ap view c.in-Object.is ∙ view-Object c.in-Object.members))

pub build_draft-returns-in_ok-build_draft_members-in-Object : goal.build_draft-returns-in_ok-build_draft_members-in-Object
build_draft-returns-in_ok-build_draft_members-in-Object t c =
    let ms = members_view c.in-Object.members.entries in
    let other = sym c.is_form.ensures ∙ c.if-is_form.false in
    let draft = ap graft c.in_ok-build_draft_members-in-Object.ensures.children ∙ graft-children_of part_in ms (part_in_other ms other) in
    IfOk-weaker c.parent-else-is_form.result _ _ (λ node is. is ∙ ap non_null (draft ∙ ap draft_of_json (sym (ap view c.in-Object.is ∙ view-Object c.in-Object.members)))) c.parent-else-is_form.ensures

-- ---- the loops

pub build_draft_items-loop-index-preserved : goal.build_draft_items-loop-index-preserved
build_draft_items-loop-index-preserved t c =
    let vs = c.deref-item-items.result.now in
    let i = c.loop-index.index in
    let v = c.item-item.result in
    let all = children_of part_in (members_at 0 (items_view c.args.items.now.items)) in
    let done = c.loop-index.children.items in
    elim c.match-built.branch [
      | build_draft_items-in-Some+in_ok-of_index+in_ok-push w ↦
          draft_item_some done all vs i v (omega arith) c.item-item.is c.loop-index.invariant w.in_ok-of_index.field-0 w.in-Some.draft c.match-built.children.items w.in_ok-of_index.ensures
          (ap (λ children. children.items) w.children-is ∙ w.in_ok-push.ensures.items)
          (sym w.in-Some.is ∙ c.in_ok-built.ensures)
      | build_draft_items-in_default w ↦
          subst (λ children. ItemsDrafted children.items (i + 1) (items_view (drop (i + 1) vs)) all) (sym w.children-is)
          (draft_item_none done all vs i v (omega arith) c.item-item.is c.loop-index.invariant (sym w.in_default.is ∙ c.in_ok-built.ensures))
    ]

pub build_draft_members-loop-name-preserved-in_ok-push : goal.build_draft_members-loop-name-preserved-in_ok-push
build_draft_members-loop-name-preserved-in_ok-push t c =
    draft_member_some c.loop-name.children.items (children_of part_in (members_view c.args.members.now.entries)) c.loop-name.name-iterator c.next.new.self (c.in-Some.name.now, c.in-Some.member.now) c.in-Some.ensures.steps c.loop-name.invariant
    c.in_ok-of_lawful.field-0 c.in-Some-built.draft c.push.new.self.items (c.in_ok-of_lawful.ensures ∙ c.as_str.ensures.value) c.in_ok-push.ensures.items (sym c.in-Some-built.is ∙ c.in_ok-built.ensures)

pub build_draft_members-loop-name-preserved : goal.build_draft_members-loop-name-preserved
build_draft_members-loop-name-preserved t c =
    draft_member_none c.loop-name.children.items (children_of part_in (members_view c.args.members.now.entries)) c.loop-name.name-iterator c.next.new.self (c.in-Some.name.now, c.in-Some.member.now) c.in-Some.ensures.steps c.loop-name.invariant (sym c.in_default.is ∙ c.in_ok-built.ensures)

pub build_draft_members-returns-clause-ascending : goal.build_draft_members-returns-clause-ascending
build_draft_members-returns-clause-ascending t c =
    let es = c.args.members.now.entries in
    let all = built_end c.loop-name.children.items (children_of part_in (members_view c.loop-name.name-iterator)) (children_of part_in (members_view es)) _ _ (ap (λ fs. children_of part_in (members_view fs)) c.in-None.ensures.steps.0) c.loop-name.invariant in
    ap (is_sorted key_cmp) all ∙ ascending_children part_in es c.iter-name-items.ensures.ordered
