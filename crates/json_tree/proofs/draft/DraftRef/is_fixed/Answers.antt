use Rattle.std.proofs.Common.{◌∙◌, sym, ap, subst}
use Rattle.tree_model.specs.Draft.{IsFixed}
use Rattle.tree_model.proofs.Drafts.{IsFixed-as_draft}
use Rattle.json_tree.specs.Working.Marks.{drafted, marks_seen}
use Rattle.json_tree.proofs.Marks.{drafted-null, some_moment}
use Rattle.json_tree.proofs.draft.DraftRef.is_fixed.Goals as goal

pub returns-in-None-clause-fixed : goal.returns-in-None-clause-fixed
returns-in-None-clause-fixed c = λ _. subst IsFixed (sym (drafted-null c.self.inside.node.now) ∙ ap (λ o. drafted c.self.inside.node.now (marks_seen o)) (sym c.in-None.is) ∙ c.self.view_is) (IsFixed-as_draft c.self.inside.node.now)

pub returns-in-Some-clause-moment : goal.returns-in-Some-clause-moment
returns-in-Some-clause-moment c = λ _. some_moment c.self.inside.node.now (marks_seen c.self.inside.marks) c.args.self.now c.self.view_is c.self.invariant (λ none. c.law.ensures.some (sym (ap marks_seen c.in-Some.is) ∙ none))
