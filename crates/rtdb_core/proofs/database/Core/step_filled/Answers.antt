use Rattle.std.proofs.Common.{◌∙◌, inl, sym, ap}
use Rattle.rtdb_model.specs.Step.{Outcome, Step}
use Rattle.rtdb_core.specs.Planned.{after_of}
use Rattle.rtdb_core.proofs.database.Core.step_filled.Goals as goal

pub returns-in-Ok-commit : goal.returns-in-Ok-commit
unfolding Step
returns-in-Ok-commit c = inl (λ i. let o : Outcome = record { reply = c.in-Ok.ensures.reply i; after = sym (c.in-Ok-commit.ensures.done ∙ ap after_of c.in-Ok.ensures.plan) i } in o)
