use Rattle.std.proofs.Common.{◌≡◌, ◌+◌, ◌^◌, ◌<◌, ◌≤◌, ◌∷◌, [], ◌++◌, Some, option_map, refl, drop, length, string_bytes, true, sym, ap, ◌∙◌, subst, arith}
use Rattle.std.specs.Option.{option_map_or}
use Rattle.std.specs.FinMap.{is_sorted}
use Rattle.std.proofs.lemmas.Result.{IfOk-weaker}
use Rattle.std.proofs.lemmas.Grind.{common_steps}
use Rattle.std.specs.List.{All}
use Rattle.serde_json.specs.View.{view, items_view, members_view}
use Rattle.serde_json.proofs.Views.{view-Array, view-Object}
use Rattle.tree_model.specs.declared.limits.TheConstants.{MAX_DEPTH}
use Rattle.tree_model.specs.Key.{key_cmp}
use Rattle.tree_model.specs.Primitive.{whole, words, truth, is_text}
use Rattle.tree_model.specs.PathMap.{depth}
use Rattle.tree_model.specs.Tree.{lone, non_null}
use Rattle.tree_model.specs.Children.{graft}
use Rattle.json_tree.specs.Json.{primitive_in, is_lawful, leaves, of_json}
use Rattle.json_tree.specs.Working.Levels.{levels}
use Rattle.json_tree.specs.Working.Members.{members_at, children_of}
use Rattle.json_tree.proofs.Limits.{text_length}
use Rattle.json_tree.proofs.Lists.{all_from_recursion}
use Rattle.json_tree.proofs.Values.{view-Null, view-Bool, view-Number, view-String}
use Rattle.json_tree.proofs.Members.{graft-children_of, ascending_children}
use Rattle.json_tree.proofs.Building.{some-lone, none_of_null, ItemsBuilt, item_none, item_some, member_none, member_some, built_end, children_have_room}
use Rattle.json_tree.proofs.Arrays.{array_ascending, array_room, array_tree}
use Rattle.json_tree.proofs.json_value.+build.Goals as goal
use Rattle.json_tree.proofs.json_value.+build.Goals.{build_items-in-Some+in_ok-of_index+in_ok-new+in_ok-push, build_items-in_default}

-- ---- a primitive

pub build-returns-in-Null : goal.build-returns-in-Null
build-returns-in-Null t c = none_of_null (view c.args.value.now) (ap view c.in-Null.is ∙ view-Null)

pub build-returns-in-Bool : goal.build-returns-in-Bool
build-returns-in-Bool t c = IfOk-weaker c.alone.result _ _ (λ node is. is ∙ some-lone (truth c.in-Bool.b) (view c.args.value.now) (ap (leaves primitive_in) (ap view c.in-Bool.is ∙ view-Bool c.in-Bool.b))) c.alone.ensures

pub build-returns-in-Number : goal.build-returns-in-Number
build-returns-in-Number t c =
    let n = c.in-Number.number in
    let found = sym c.whole_of.ensures ∙ c.unwrap.ensures in
    let pairs = ap (leaves primitive_in) (ap view c.in-Number.is ∙ view-Number n) ∙ ap (λ o. option_map_or (λ v. ([], v) ∷ []) (option_map whole o) []) found in
    IfOk-weaker c.alone-in-Number.result _ _ (λ node is. is ∙ some-lone (whole c.unwrap.result) (view c.args.value.now) pairs) c.alone-in-Number.ensures

pub build-words-requires : goal.build-words-requires
build-words-requires t c =
    let lawful = sym (ap is_lawful (ap view c.in-String.is ∙ view-String c.in-String.text)) ∙ c.requires.lawful in
    text_length c.as_str.result.now (subst (λ s. is_text s ≡ true) (sym c.as_str.ensures.value) lawful)

pub build-returns-in_ok-words-in-String : goal.build-returns-in_ok-words-in-String
build-returns-in_ok-words-in-String t c =
    let leaf = c.in_ok-words-in-String.ensures ∙ ap words c.as_str.ensures.value in
    let pairs = ap (leaves primitive_in) (ap view c.in-String.is ∙ view-String c.in-String.text) in
    IfOk-weaker c.alone-in-String.result _ _ (λ node is. is ∙ ap (λ v. Some (lone v)) leaf ∙ some-lone (words (string_bytes c.in-String.text)) (view c.args.value.now) pairs) c.alone-in-String.ensures

-- ---- an array

pub build-parent-requires-clause-ascending : goal.build-parent-requires-clause-ascending
build-parent-requires-clause-ascending t c =
    let vs = c.in-Array.items.items in
    let short : length vs < 2 ^ 64 = grind (arith, common_steps) in
    array_ascending primitive_in vs c.in_ok-children-in-Array.children.items c.sort.new.children.items c.in_ok-children-in-Array.ensures c.sort.ensures.permutation short c.sort.ensures.ascending

pub build-parent-requires-clause-room : goal.build-parent-requires-clause-room
build-parent-requires-clause-room t c =
    let vs = c.in-Array.items.items in
    let short : length vs < 2 ^ 64 = grind (arith, common_steps) in
    array_room vs c.in_ok-children-in-Array.children.items c.sort.new.children.items c.in_ok-children-in-Array.ensures c.sort.ensures.permutation short
    (subst (λ d. levels d ≤ MAX_DEPTH + 1) (ap view c.in-Array.is ∙ view-Array c.in-Array.items) c.requires.room)

pub build-returns-in_ok-children-in-Array : goal.build-returns-in_ok-children-in-Array
build-returns-in_ok-children-in-Array t c =
    let vs = c.in-Array.items.items in
    let short : length vs < 2 ^ 64 = grind (arith, common_steps) in
    let tree = array_tree primitive_in vs c.in_ok-children-in-Array.children.items c.sort.new.children.items c.in_ok-children-in-Array.ensures c.sort.ensures.permutation short in
    IfOk-weaker c.parent.result _ _ (λ node is. is ∙ ap non_null (tree ∙ ap of_json (sym (ap view c.in-Array.is ∙ view-Array c.in-Array.items)))) c.parent.ensures

pub build_items-loop-index-preserved : goal.build_items-loop-index-preserved
build_items-loop-index-preserved t c =
    let vs = c.deref-item-items.result.now in
    let i = c.loop-index.index in
    let v = c.item-item.result in
    let all = children_of primitive_in (members_at 0 (items_view c.args.items.now.items)) in
    let done = c.loop-index.children.items in
    elim c.match-built.branch [
      | build_items-in-Some+in_ok-of_index+in_ok-new+in_ok-push w ↦
          item_some done all vs i v (omega arith) c.item-item.is c.loop-index.invariant w.in_ok-of_index.field-0 w.in-Some.node c.match-built.children.items w.in_ok-of_index.ensures
          (ap (λ children. children.items) w.children-is ∙ w.in_ok-push.ensures.items ∙ ap (λ child. done ++ child ∷ []) w.in_ok-new.ensures)
          (sym w.in-Some.is ∙ c.in_ok-built.ensures)
      | build_items-in_default w ↦
          subst (λ children. ItemsBuilt children.items (i + 1) (items_view (drop (i + 1) vs)) all) (sym w.children-is)
          (item_none done all vs i v (omega arith) c.item-item.is c.loop-index.invariant (sym w.in_default.is ∙ c.in_ok-built.ensures))
    ]

-- ---- an object

pub build-parent-requires-in-Object-clause-room : goal.build-parent-requires-in-Object-clause-room
build-parent-requires-in-Object-clause-room t c =
    let es = c.in-Object.members.entries in
    let room = subst (λ d. levels d ≤ MAX_DEPTH + 1) (ap view c.in-Object.is ∙ view-Object c.in-Object.members) c.requires.room in
    subst (λ cs. All (λ child. depth child.1 < MAX_DEPTH) cs) (sym c.in_ok-build_members-in-Object.ensures.children) (all_from_recursion (λ child. depth child.1 < MAX_DEPTH) _ (children_have_room (members_view es) room))

pub build-returns-in_ok-build_members-in-Object : goal.build-returns-in_ok-build_members-in-Object
build-returns-in_ok-build_members-in-Object t c =
    let es = c.in-Object.members.entries in
    let tree = ap graft c.in_ok-build_members-in-Object.ensures.children ∙ graft-children_of primitive_in (members_view es) refl in
    IfOk-weaker c.parent-in-Object.result _ _ (λ node is. is ∙ ap non_null (tree ∙ ap of_json (sym (ap view c.in-Object.is ∙ view-Object c.in-Object.members)))) c.parent-in-Object.ensures

pub build_members-loop-name-preserved-in_ok-push : goal.build_members-loop-name-preserved-in_ok-push
build_members-loop-name-preserved-in_ok-push t c =
    member_some c.loop-name.children.items (children_of primitive_in (members_view c.args.members.now.entries)) c.loop-name.name-iterator c.next.new.self (c.in-Some.name.now, c.in-Some.member.now) c.in-Some.ensures.steps c.loop-name.invariant
    c.in_ok-of_lawful.field-0 c.in-Some-built.node c.push.new.self.items (c.in_ok-of_lawful.ensures ∙ c.as_str.ensures.value) (c.in_ok-push.ensures.items ∙ ap (λ child. c.loop-name.children.items ++ child ∷ []) c.in_ok-new.ensures) (sym c.in-Some-built.is ∙ c.in_ok-built.ensures)

pub build_members-loop-name-preserved : goal.build_members-loop-name-preserved
build_members-loop-name-preserved t c =
    member_none c.loop-name.children.items (children_of primitive_in (members_view c.args.members.now.entries)) c.loop-name.name-iterator c.next.new.self (c.in-Some.name.now, c.in-Some.member.now) c.in-Some.ensures.steps c.loop-name.invariant (sym c.in_default.is ∙ c.in_ok-built.ensures)

pub build_members-returns-clause-ascending : goal.build_members-returns-clause-ascending
build_members-returns-clause-ascending t c =
    let es = c.args.members.now.entries in
    let all = built_end c.loop-name.children.items (children_of primitive_in (members_view c.loop-name.name-iterator)) (children_of primitive_in (members_view es)) _ _ (ap (λ fs. children_of primitive_in (members_view fs)) c.in-None.ensures.steps.0) c.loop-name.invariant in
    ap (is_sorted key_cmp) all ∙ ascending_children primitive_in es c.iter-name-items.ensures.ordered
