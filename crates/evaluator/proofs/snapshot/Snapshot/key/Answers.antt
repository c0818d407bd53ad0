use Rattle.std.proofs.Common.{◌∙◌, sym, ap}
use Rattle.evaluator.specs.Working.Places.{snapshot_of}
use Rattle.evaluator.proofs.snapshot.Snapshot.key.Goals as goal

pub returns-in-Parent-clause-some : goal.returns-in-Parent-clause-some
returns-in-Parent-clause-some c = (c.in-Parent.field-0.now, sym (ap (λ a. snapshot_of c.self.inside.view a) (sym c.in-Parent.is) ∙ c.self.view_is))

pub returns-in-Passed-clause-some : goal.returns-in-Passed-clause-some
returns-in-Passed-clause-some c = (c.in-Passed.field-0.now, sym (ap (λ a. snapshot_of c.self.inside.view a) (sym c.in-Passed.is) ∙ c.self.view_is))
