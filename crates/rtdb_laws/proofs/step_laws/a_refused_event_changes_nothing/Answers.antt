use Rattle.rtdb_laws.proofs.StepLaws.{refused_stays}
use Rattle.rtdb_laws.proofs.step_laws.a_refused_event_changes_nothing.Goals as goal

pub returns : goal.returns
returns c = refused_stays
