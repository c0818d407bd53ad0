use Rattle.rtdb_model.proofs.Answers.{some_answer, one_answer}
use Rattle.rtdb_laws.proofs.step_laws.a_step_is_a_function.Goals as goal

pub returns-clause-some : goal.returns-clause-some
returns-clause-some c = some_answer

pub returns-clause-one : goal.returns-clause-one
returns-clause-one c = one_answer
