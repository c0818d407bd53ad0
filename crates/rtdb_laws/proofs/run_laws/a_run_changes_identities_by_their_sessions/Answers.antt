use Rattle.rtdb_laws.proofs.RunLaws.{signed_in}
use Rattle.rtdb_laws.proofs.run_laws.a_run_changes_identities_by_their_sessions.Goals as goal

pub returns : goal.returns
returns c = signed_in
