use Rattle.serde_json.specs.Data.{string}
use Rattle.answers.proofs.Behind.{value_put}
use Rattle.answers.proofs.answer_writer.AnswerWriter.escaped_string.Goals as goal

pub returns-clause-text : goal.returns-clause-text
returns-clause-text c =
    let done = c.in_ok-string.ensures in
    let lent = c.lend_room.ensures in
    value_put (string c.args.text.now) c.args.self.now c.lend_room.new.self c.put_written.new.self c.lend_room.result.items c.into_inner.result.items c.new-out.result c.string.new.self lent.same lent.none c.new-out.ensures.before c.new-out.ensures.tokens done.room.0 done.ok c.into_inner.ensures.items c.in_ok-put_written.ensures.text
