use Rattle.answers.specs.AnswerText.{closed_data}
use Rattle.answers.proofs.Behind.{value_put}
use Rattle.answers.proofs.answer_writer.AnswerWriter.closed.Goals as goal

pub returns-clause-text : goal.returns-clause-text
returns-clause-text c =
    let done = c.in_ok-put_closed.ensures in
    let lent = c.lend_room.ensures in
    value_put (closed_data c.args.left) c.args.self.now c.lend_room.new.self c.put_written.new.self c.lend_room.result.items c.into_inner.result.items c.new-out.result c.put_closed.new.out lent.same lent.none c.new-out.ensures.before c.new-out.ensures.tokens done.before done.tokens c.into_inner.ensures.items c.in_ok-put_written.ensures.text
