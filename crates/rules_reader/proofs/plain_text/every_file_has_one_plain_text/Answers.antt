use Rattle.rules_reader.proofs.Cuts.{each_is_cut, one_cut, has_plain, one_plain}
use Rattle.rules_reader.proofs.plain_text.every_file_has_one_plain_text.Goals as goal

pub returns-clause-cut : goal.returns-clause-cut
returns-clause-cut c = each_is_cut

pub returns-clause-one_cut : goal.returns-clause-one_cut
returns-clause-one_cut c = one_cut

pub returns-clause-text : goal.returns-clause-text
returns-clause-text c = has_plain

pub returns-clause-one_text : goal.returns-clause-one_text
returns-clause-one_text c = one_plain
