use Rattle.std.proofs.Common.{[], ◌++◌, ◌∙◌, ap}
use Rattle.std.proofs.lemmas.Result.{on_ok_weaker}
use Rattle.answers.specs.AnswerText.{line_fault_text}
use Rattle.sessions.proofs.Gaining.{gains_none}
use Rattle.sessions.proofs.Turning.{asks_nothing}
use Rattle.sessions.proofs.attending.attend.Goals as goal

pub returns-in-Err-clause-answered : goal.returns-in-Err-clause-answered
returns-in-Err-clause-answered g c = (
  line_fault_text c.in-Err.fault,
  [],
  gains_none _,
  asks_nothing _ _ _ _ c.in-Err.fault c.in-Err.ensures.asked,
  on_ok_weaker c.put_line_fault.result (λ t. t ∙ ap (λ s. s ++ line_fault_text c.in-Err.fault) c.requires.none) c.put_line_fault.ensures.text,
)
