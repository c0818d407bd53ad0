use Rattle.judge.proofs.Verdicts.{grants_decided, reads_decided, writes_decided, one_verdict}
use Rattle.judge.proofs.laws.the_tests_decide.Goals as goal

pub returns-clause-granted : goal.returns-clause-granted
returns-clause-granted c = grants_decided

pub returns-clause-reads : goal.returns-clause-reads
returns-clause-reads c = reads_decided

pub returns-clause-writes : goal.returns-clause-writes
returns-clause-writes c = writes_decided

pub returns-clause-one_verdict : goal.returns-clause-one_verdict
returns-clause-one_verdict c = one_verdict
