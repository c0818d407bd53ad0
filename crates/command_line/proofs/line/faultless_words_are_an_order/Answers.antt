use Rattle.command_line.proofs.Named.{some_order}
use Rattle.command_line.proofs.line.faultless_words_are_an_order.Goals as goal

pub returns : goal.returns
returns c = some_order
