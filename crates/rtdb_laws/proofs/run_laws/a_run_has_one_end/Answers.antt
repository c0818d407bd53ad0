use Rattle.rtdb_laws.proofs.Existence.{one_end, none_alike}
use Rattle.rtdb_laws.proofs.run_laws.a_run_has_one_end.Goals as goal

pub returns-clause-alike : goal.returns-clause-alike
returns-clause-alike c = one_end

pub returns-clause-in_full : goal.returns-clause-in_full
returns-clause-in_full c = λ old new other calls replies others h g m n. one_end old new other calls replies others h g (none_alike old new other calls replies others h g m n)
