use Rattle.command_line.proofs.Named.{named, no_order}
use Rattle.command_line.proofs.line.a_check_names_one_of_the_words.Goals as goal

pub returns-clause-named : goal.returns-clause-named
returns-clause-named c = named

pub returns-clause-missing : goal.returns-clause-missing
returns-clause-missing c = no_order
