use Rattle.std.proofs.Common.{◌≡◌, ◌<◌, ◌∙◌, true, List, map, ap, sym, subst}
use Rattle.std.specs.FinMap.{is_sorted}
use Rattle.std.specs.List.{All}
use Rattle.std.proofs.lemmas.Result.{IfOk-weaker}
use Rattle.serde_json.specs.Data.{object}
use Rattle.tree_model.specs.declared.limits.TheConstants.{MAX_DEPTH}
use Rattle.tree_model.specs.Key.{Key, key_cmp}
use Rattle.tree_model.specs.PathMap.{depth}
use Rattle.tree_model.specs.Tree.{Tree}
use Rattle.tree_model.specs.Children.{graft, AreChildren}
use Rattle.tree_model.specs.Draft.{tree_at}
use Rattle.json_tree.specs.Json.{value_of}
use Rattle.json_tree.specs.Draft.{value_of_draft}
use Rattle.json_tree.proofs.Written.{value_of-graft}
use Rattle.json_tree.proofs.DraftWritten.{value_of_draft-as_draft, value_of_draft-graft, sorted_mapped}
use Rattle.json_lines.proofs.Naming.{at_zero, none_null, named_at_zero, zero_children, zero_room}
use Rattle.json_lines.proofs.draft_members.DraftMembers.into_children.Goals as goal

pub of_children-requires-clause-ascending : goal.of_children-requires-clause-ascending
of_children-requires-clause-ascending c =
    subst (λ cs. is_sorted key_cmp cs ≡ true) (sym c.in_ok-children.ensures) (sorted_mapped (tree_at 0) c.self.inside.held.items c.self.invariant)

pub of_children-requires-clause-room : goal.of_children-requires-clause-room
of_children-requires-clause-room c =
    subst (λ (cs : List (Key × Tree)). All (λ child. depth child.1 < MAX_DEPTH) cs) (sym (c.in_ok-children.ensures ∙ ap (map at_zero) c.self.view_is)) (zero_room c.args.self c.requires.plain)

pub returns-in_ok-of_children : goal.returns-in_ok-of_children
returns-in_ok-of_children c =
    let es = c.args.self in
    let sorted = subst (λ xs. is_sorted key_cmp xs ≡ true) c.self.view_is c.self.invariant in
    let fixed = c.is_fixed.ensures c.if-is_fixed.true in
    let same = c.in_ok-children.ensures ∙ ap (map at_zero) c.self.view_is in
    ap value_of_draft c.fixed.ensures ∙ value_of_draft-as_draft c.in_ok-of_children.field-0
    ∙ ap value_of (c.in_ok-of_children.ensures.tree ∙ ap graft same) ∙ value_of-graft (map at_zero es) (zero_children es c.requires.some sorted c.requires.plain)
    ∙ ap object (named_at_zero es fixed)

pub returns-in_ok-children-2 : goal.returns-in_ok-children-2
returns-in_ok-children-2 c =
    let es = c.args.self in
    let sorted = subst (λ xs. is_sorted key_cmp xs ≡ true) c.self.view_is c.self.invariant in
    let same = c.in_ok-children-2.ensures ∙ c.self.view_is in
    let are : AreChildren es = record { some = c.requires.some; ascending = sorted; each = none_null es c.requires.plain } in
    IfOk-weaker c.of_children-else-is_fixed.result _ _ (λ draft is. ap value_of_draft (is ∙ ap graft same) ∙ value_of_draft-graft es are) c.of_children-else-is_fixed.ensures
