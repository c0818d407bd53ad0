use Rattle.std.proofs.Common.{Ok}
use Rattle.scripts.proofs.Answering.{IfOk-AnswersAt, IfOk-AnswersAt-fault}
use Rattle.scripts.proofs.respond.answer_request.Goals as goal

pub returns-in-Ok-clause-answered : goal.returns-in-Ok-clause-answered
returns-in-Ok-clause-answered c = IfOk-AnswersAt _ _ _ _ _ (Ok c.in-Ok.asked) _ c.in-Ok.ensures.asked c.answer_asked.ensures.answered

pub returns-in-Err-clause-answered : goal.returns-in-Err-clause-answered
returns-in-Err-clause-answered c = IfOk-AnswersAt-fault _ _ _ _ c.in-Err.fault _ c.in-Err.ensures.asked c.say_line_fault.ensures.line
