use Rattle.rtdb_laws.proofs.Listening.{listens_so}
use Rattle.rtdb_laws.proofs.listener_laws.what_is_listened_to_is_what_was_begun.Goals as goal

pub returns : goal.returns
returns c = listens_so
