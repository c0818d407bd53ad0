use Rattle.rules_reader.proofs.Decided.{states_one, one_reason, never_both}
use Rattle.rules_reader.proofs.file.a_file_has_one_answer.Goals as goal

pub returns-clause-one_book : goal.returns-clause-one_book
returns-clause-one_book c = states_one

pub returns-clause-one_reason : goal.returns-clause-one_reason
returns-clause-one_reason c = one_reason

pub returns-clause-never_both : goal.returns-clause-never_both
returns-clause-never_both c = never_both
