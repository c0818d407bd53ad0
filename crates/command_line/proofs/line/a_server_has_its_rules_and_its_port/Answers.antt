use Rattle.command_line.proofs.Named.{no_server_alone, port_given, rounds_fit, rules_given, workers_fit}
use Rattle.command_line.proofs.line.a_server_has_its_rules_and_its_port.Goals as goal

pub returns-clause-rules : goal.returns-clause-rules
returns-clause-rules c = rules_given

pub returns-clause-port : goal.returns-clause-port
returns-clause-port c = port_given

pub returns-clause-workers : goal.returns-clause-workers
returns-clause-workers c = workers_fit

pub returns-clause-rounds : goal.returns-clause-rounds
returns-clause-rounds c = rounds_fit

pub returns-clause-missing : goal.returns-clause-missing
returns-clause-missing c = no_server_alone
