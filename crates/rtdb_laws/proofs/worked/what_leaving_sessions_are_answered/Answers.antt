use Rattle.std.proofs.Common.{refl}
use Rattle.expr_parser.specs.Tree.{True, False}
use Rattle.rtdb_laws.proofs.WorkedLeaving.{leaves_and_runs, takes_back, leaves_alone, runs_early, writes_late}
use Rattle.rtdb_laws.proofs.worked.what_leaving_sessions_are_answered.Goals as goal

pub returns-clause-runs : goal.returns-clause-runs
returns-clause-runs c = leaves_and_runs False True (λ env. refl)

pub returns-clause-cancelled : goal.returns-clause-cancelled
returns-clause-cancelled c = takes_back False True (λ env. refl)

pub returns-clause-without : goal.returns-clause-without
returns-clause-without c = leaves_alone False True (λ env. refl)

pub returns-clause-before : goal.returns-clause-before
returns-clause-before c = runs_early False True (λ env. refl)

pub returns-clause-behind : goal.returns-clause-behind
returns-clause-behind c = writes_late False True (λ env. refl)
