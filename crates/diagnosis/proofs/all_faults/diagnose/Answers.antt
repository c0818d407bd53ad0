use Rattle.diagnosis.proofs.all_faults.diagnose.Goals as goal

pub returns-in-Ok-clause-accepted : goal.returns-in-Ok-clause-accepted
returns-in-Ok-clause-accepted c = λ _. (c.in-Ok.field-0, c.in-Ok.ensures.accepted)
