use Rattle.std.specs.Prelude.{◌≡◌, Some}
use Rattle.std.proofs.Common.{ap, sym, subst, ◌∙◌}
use Rattle.tree_model.specs.Path.{Path}
use Rattle.tree_model.specs.PathMap.{get}
use Rattle.tree_model.specs.Put.{written}
use Rattle.tree_model.specs.Draft.{moment, IsFixed}
use Rattle.tree_model.proofs.Writes.{IsFixed-null_draft}
use Rattle.path_capture.specs.Write.{draft_or_null}
use Rattle.path_capture.proofs.write.Write.is_fixed.Goals as goal

pub returns-in-Some-clause-fixed : goal.returns-in-Some-clause-fixed
returns-in-Some-clause-fixed c = λ so. subst IsFixed (ap draft_or_null (sym c.in-Some.is) ∙ ap written c.self.view_is) (c.is_fixed.ensures.fixed so)

pub returns-in-Some-clause-moment : goal.returns-in-Some-clause-moment
returns-in-Some-clause-moment c = λ so. subst (λ draft. (p : Path) × (get draft p ≡ Some moment)) (ap draft_or_null (sym c.in-Some.is) ∙ ap written c.self.view_is) (c.is_fixed.ensures.moment so)

pub returns-in-None-clause-fixed : goal.returns-in-None-clause-fixed
returns-in-None-clause-fixed c = λ _. subst IsFixed (ap draft_or_null (sym c.in-None.is) ∙ ap written c.self.view_is) IsFixed-null_draft
