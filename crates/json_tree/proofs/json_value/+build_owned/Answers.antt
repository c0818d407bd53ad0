use Rattle.std.proofs.Common.{◌+◌, ◌<◌, ◌≤◌, ◌∷◌, [], ◌++◌, sym, ap, ◌∙◌, subst, refl}
use Rattle.std.specs.FinMap.{is_sorted}
use Rattle.std.proofs.lemmas.Result.{IfOk-weaker}
use Rattle.std.specs.List.{All}
use Rattle.serde_json.specs.View.{view, members_view}
use Rattle.serde_json.proofs.Views.{view-Object}
use Rattle.tree_model.specs.declared.limits.TheConstants.{MAX_DEPTH}
use Rattle.tree_model.specs.Key.{key_cmp}
use Rattle.tree_model.specs.PathMap.{depth}
use Rattle.tree_model.specs.Tree.{non_null}
use Rattle.tree_model.specs.Children.{graft}
use Rattle.json_tree.specs.Json.{primitive_in, of_json}
use Rattle.json_tree.specs.Working.Levels.{levels}
use Rattle.json_tree.specs.Working.Members.{children_of}
use Rattle.json_tree.proofs.Lists.{all_from_recursion}
use Rattle.json_tree.proofs.Members.{graft-children_of, ascending_children}
use Rattle.json_tree.proofs.Building.{MembersBuilt, member_none, member_some, built_end, children_have_room}
use Rattle.json_tree.proofs.json_value.+build_owned.Goals as goal
use Rattle.json_tree.proofs.json_value.+build_owned.Goals.{build_owned_members-in-Some-built+in_ok-of_lawful+in_ok-new+in_ok-push, build_owned_members-in_default}

pub build_owned-parent-requires-clause-room : goal.build_owned-parent-requires-clause-room
build_owned-parent-requires-clause-room t c =
    let es = c.in-Object.members.entries in
    let room = subst (λ d. levels d ≤ MAX_DEPTH + 1) (ap view c.in-Object.is ∙ view-Object c.in-Object.members) c.requires.room in
    subst (λ cs. All (λ child. depth child.1 < MAX_DEPTH) cs) (sym c.in_ok-build_owned_members-in-Object.ensures.children) (all_from_recursion (λ child. depth child.1 < MAX_DEPTH) _ (children_have_room (members_view es) room))

pub build_owned-returns-in_ok-build_owned_members-in-Object : goal.build_owned-returns-in_ok-build_owned_members-in-Object
build_owned-returns-in_ok-build_owned_members-in-Object t c =
    let es = c.in-Object.members.entries in
    let tree = ap graft c.in_ok-build_owned_members-in-Object.ensures.children ∙ graft-children_of primitive_in (members_view es) refl in
    IfOk-weaker c.parent.result _ _ (λ node is. is ∙ ap non_null (tree ∙ ap of_json (sym (ap view c.in-Object.is ∙ view-Object c.in-Object.members)))) c.parent.ensures

pub build_owned_members-loop-name-preserved : goal.build_owned_members-loop-name-preserved
build_owned_members-loop-name-preserved t c =
    let done = c.loop-name.children.items in
    let all = children_of primitive_in (members_view c.args.members.entries) in
    let es = c.loop-name.name-iterator in
    let more = c.next.new.self in
    elim c.match-built.branch [
      | build_owned_members-in-Some-built+in_ok-of_lawful+in_ok-new+in_ok-push w ↦
          member_some done all es more (c.in-Some.name, c.in-Some.member) c.in-Some.ensures.steps c.loop-name.invariant w.in_ok-of_lawful.field-0 w.in-Some-built.node c.match-built.children.items (w.in_ok-of_lawful.ensures ∙ w.as_str.ensures.value)
          (ap (λ children. children.items) w.children-is ∙ w.in_ok-push.ensures.items ∙ ap (λ child. done ++ child ∷ []) w.in_ok-new.ensures) (sym w.in-Some-built.is ∙ c.in_ok-built.ensures)
      | build_owned_members-in_default w ↦
          subst (λ children. MembersBuilt children.items (members_view more) all) (sym w.children-is)
          (member_none done all es more (c.in-Some.name, c.in-Some.member) c.in-Some.ensures.steps c.loop-name.invariant (sym w.in_default.is ∙ c.in_ok-built.ensures))
    ]

pub build_owned_members-returns-clause-ascending : goal.build_owned_members-returns-clause-ascending
build_owned_members-returns-clause-ascending t c =
    let es = c.args.members.entries in
    let all = built_end c.loop-name.children.items (children_of primitive_in (members_view c.loop-name.name-iterator)) (children_of primitive_in (members_view es)) _ _ (ap (λ fs. children_of primitive_in (members_view fs)) c.in-None.ensures.steps.0) c.loop-name.invariant in
    ap (is_sorted key_cmp) all ∙ ascending_children primitive_in es c.len.ensures.ordered
