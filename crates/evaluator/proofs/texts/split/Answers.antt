use Rattle.std.proofs.Common.{sym}
use Rattle.evaluator.proofs.Replacing.{stripped, split_once_is}
use Rattle.evaluator.proofs.texts.split.Goals as goal

pub returns-in-Some : goal.returns-in-Some
returns-in-Some c = sym (stripped c.args.part.now c.args.text.now c.in-Some.behind.now c.requires.some c.in-Some.ensures.cases)

pub returns-in-None : goal.returns-in-None
returns-in-None c = split_once_is c.args.part.now c.args.text.now c.split_once.result c.requires.some c.split_once.ensures.cases
