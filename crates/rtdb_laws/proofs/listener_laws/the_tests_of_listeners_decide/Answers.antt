use Rattle.rtdb_laws.proofs.ListenJudging.{hears_decides}
use Rattle.rtdb_model.proofs.Sameness.{moves_decides}
use Rattle.rtdb_laws.proofs.listener_laws.the_tests_of_listeners_decide.Goals as goal

pub returns-clause-heard : goal.returns-clause-heard
returns-clause-heard c = hears_decides

pub returns-clause-moved : goal.returns-clause-moved
returns-clause-moved c = moves_decides
