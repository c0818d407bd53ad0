use Rattle.rules_reader.proofs.Answered.{each_file}
use Rattle.rules_reader.proofs.OneCapture.{stated_one}
use Rattle.rules_reader.proofs.file.each_file_has_an_answer.Goals as goal

pub returns-clause-some : goal.returns-clause-some
returns-clause-some c = each_file

pub returns-clause-one_capture : goal.returns-clause-one_capture
returns-clause-one_capture c = stated_one
