use Rattle.std.proofs.Common.{◌∙◌, sym, ap}
use Rattle.evaluator.specs.Snapshot.{parent_at}
use Rattle.evaluator.specs.Working.Places.{snapshot_of}
use Rattle.evaluator.proofs.Places.{parent_of_below}
use Rattle.evaluator.proofs.snapshot.Snapshot.parent.Goals as goal

pub returns-in-Parent : goal.returns-in-Parent
returns-in-Parent c = sym (parent_of_below _ _ _) ∙ ap parent_at (ap (λ a. snapshot_of c.self.inside.view a) (sym c.in-Parent.is) ∙ c.self.view_is)

pub returns-in-Passed : goal.returns-in-Passed
returns-in-Passed c = sym (parent_of_below _ _ _) ∙ ap parent_at (ap (λ a. snapshot_of c.self.inside.view a) (sym c.in-Passed.is) ∙ c.self.view_is)
