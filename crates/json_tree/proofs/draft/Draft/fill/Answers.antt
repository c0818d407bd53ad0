use Rattle.std.proofs.Common.{◌≡◌, sym, ap, ◌∙◌, subst}
use Rattle.tree_model.specs.Tree.{null}
use Rattle.tree_model.specs.Draft.{tree_at, as_draft}
use Rattle.json_tree.specs.Working.Marks.{drafted, AreMarks, marks_of}
use Rattle.json_tree.proofs.Marks.{unmarked, drafted-null}
use Rattle.json_tree.proofs.Stamping.{stamped-null}
use Rattle.json_tree.proofs.draft.Draft.fill.Goals as goal

pub invariant_of-self : goal.invariant_of-self
invariant_of-self c = subst (λ o. AreMarks c.stamp.new.node (marks_of o)) (sym c.take.ensures.after) (unmarked c.stamp.new.node)

pub returns-in-Some : goal.returns-in-Some
returns-in-Some c =
    let marks : marks_of c.self.inside.marks ≡ c.deref.result.now = ap marks_of (sym c.take.ensures.value ∙ c.in-Some.is) ∙ sym c.deref.ensures in
    ap (λ o. drafted c.stamp.new.node (marks_of o)) c.take.ensures.after
    ∙ drafted-null c.stamp.new.node
    ∙ ap as_draft (c.stamp.ensures ∙ ap (λ m. tree_at c.args.now (drafted c.self.inside.node m)) (sym marks) ∙ ap (tree_at c.args.now) c.self.view_is)

pub returns-in_default : goal.returns-in_default
returns-in_default c =
    let none : marks_of c.self.inside.marks ≡ null = ap marks_of (sym c.take.ensures.value ∙ c.in_default.is) in
    ap (λ o. drafted c.self.inside.node (marks_of o)) c.take.ensures.after
    ∙ drafted-null c.self.inside.node
    ∙ ap as_draft (sym (ap (λ m. tree_at c.args.now (drafted c.self.inside.node m)) none ∙ stamped-null c.args.now c.self.inside.node) ∙ ap (tree_at c.args.now) c.self.view_is)
