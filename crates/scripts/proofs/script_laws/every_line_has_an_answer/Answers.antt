use Rattle.scripts.proofs.Going.{IsWritten-more}
use Rattle.scripts.proofs.InFull.{some_full, one_full, full_is_answered}
use Rattle.scripts.proofs.script_laws.every_line_has_an_answer.Goals as goal

pub returns-clause-some : goal.returns-clause-some
returns-clause-some c = some_full

pub returns-clause-one : goal.returns-clause-one
returns-clause-one c = one_full

pub returns-clause-answers : goal.returns-clause-answers
returns-clause-answers c = full_is_answered

pub returns-clause-front : goal.returns-clause-front
returns-clause-front c = IsWritten-more
