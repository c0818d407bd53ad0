use Rattle.std.proofs.Common.{◌∷◌, [], Some, option_map, ◌∙◌, sym, ap, subst}
use Rattle.tree_model.specs.PathMap.{sub}
use Rattle.tree_model.specs.Tree.{Tree}
use Rattle.json_tree.specs.Working.Marks.{AreMarks, drafted, marks_seen}
use Rattle.json_tree.proofs.Building.{tree_from_some}
use Rattle.json_tree.proofs.Marks.{marks-sub, child_seen, no_child_seen}
use Rattle.json_tree.proofs.draft.DraftRef.child.Goals as goal

pub returns-in_default : goal.returns-in_default
returns-in_default c = no_child_seen c.self.inside.node.now (marks_seen c.self.inside.marks) c.args.self.now c.self.view_is c.args.name.now (ap (option_map (λ node. node.now)) (sym c.in_default.is) ∙ c.child.ensures)

pub invariant_of-result : goal.invariant_of-result
invariant_of-result c =
    let there = tree_from_some (sub c.self.inside.node.now (c.args.name.now ∷ [])) c.in-Some.node.now (ap (option_map (λ node. node.now)) (sym c.in-Some.is) ∙ c.child.ensures) in
    subst (λ (t : Tree). AreMarks t (marks_seen c.child_of.result)) (sym there.0) (subst (λ (m : Tree). AreMarks (sub c.self.inside.node.now (c.args.name.now ∷ [])) m) (sym c.child_of.ensures) (marks-sub c.self.inside.node.now (marks_seen c.self.inside.marks) (c.args.name.now ∷ []) c.self.invariant))

pub returns : goal.returns
returns c =
    ap (λ m. Some (drafted c.in-Some.node.now m)) c.child_of.ensures
    ∙ child_seen c.self.inside.node.now (marks_seen c.self.inside.marks) c.args.self.now c.self.view_is c.args.name.now c.in-Some.node.now (ap (option_map (λ node. node.now)) (sym c.in-Some.is) ∙ c.child.ensures)
