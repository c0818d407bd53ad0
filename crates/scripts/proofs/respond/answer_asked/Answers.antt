use Rattle.std.proofs.Common.{ap, subst, refl}
use Rattle.std.proofs.lemmas.Result.{IfOk-weaker}
use Rattle.rtdb_model.specs.declared.event.Event.{Event}
use Rattle.rtdb_model.specs.Step.{Step}
use Rattle.rtdb_model.proofs.Filling.{step_filled}
use Rattle.rtdb_model.specs.Borrowed.{reply_of, refusal_of}
use Rattle.rtdb_model.specs.declared.reply.Reply.TheVariants.{Refused}
use Rattle.rtdb_model.specs.declared.reply.Refusal.TheVariants.{NoMemory}
use Rattle.answers.specs.AnswerText.{text}
use Rattle.scripts.specs.Said.{as_line}
use Rattle.scripts.proofs.Fixed.{no_memory_of_reply}
use Rattle.scripts.proofs.Planning.{done_by_plan, refused_by_plan}
use Rattle.scripts.proofs.respond.answer_asked.Goals as goal

pub returns-in-Err-clause-answered : goal.returns-in-Err-clause-answered
returns-in-Err-clause-answered c =
    let old = c.args.core.now in
    let stamp = c.args.asked.stamp in
    let reply = Refused (refusal_of c.in-Err.refusal) in
    let step = step_filled old stamp.now stamp.session c.args.asked.event reply old (subst (λ (e : Event). Step old stamp.now stamp.session e reply old) c.fill.ensures.filled c.in-Err.ensures.refused) in
    IfOk-weaker c.say_borrowed_refusal.result _ _ (λ answer line. (text reply, (reply, step, refl), line)) c.say_borrowed_refusal.ensures.line

pub returns-in-Ok-commit-clause-answered : goal.returns-in-Ok-commit-clause-answered
returns-in-Ok-commit-clause-answered c =
    let stamp = c.args.asked.stamp in
    let granted = c.in-Ok.granted in
    let said = c.in_ok-answer-in-Ok in
    let old = c.args.core.now in
    let new = c.commit.new.self in
    let reply = reply_of granted.reply in
    let done = done_by_plan old new stamp.now stamp.session c.fill.new.self granted.reply granted.plan said.plan c.in-Ok.ensures.granted said.ensures.plan c.in-Ok-commit.ensures.done in (
      text reply,
      (reply, step_filled old stamp.now stamp.session c.args.asked.event reply new (subst (λ (e : Event). Step old stamp.now stamp.session e reply new) c.fill.ensures.filled done), refl),
      said.ensures.line,
    )

pub returns-in-Err-commit-clause-answered : goal.returns-in-Err-commit-clause-answered
returns-in-Err-commit-clause-answered c =
    let stamp = c.args.asked.stamp in
    let granted = c.in-Ok.granted in
    let said = c.in_ok-answer-in-Ok in
    let old = c.args.core.now in
    let new = c.commit.new.self in
    let reply = Refused NoMemory in
    let wants = refused_by_plan old new stamp.now stamp.session c.fill.new.self granted.reply granted.plan said.plan c.in-Ok.ensures.granted said.ensures.plan reply c.in-Err-commit.ensures.refused in (
      text reply,
      (reply, step_filled old stamp.now stamp.session c.args.asked.event reply new (subst (λ (e : Event). Step old stamp.now stamp.session e reply new) c.fill.ensures.filled wants), refl),
      ap as_line no_memory_of_reply,
    )
