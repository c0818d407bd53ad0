use Rattle.rtdb_model.proofs.Answers.{never_spent}
use Rattle.rtdb_laws.proofs.step_laws.no_step_answers_spent.Goals as goal

pub returns : goal.returns
returns c = never_spent
