use Rattle.store.proofs.Replays.{replays_one}
use Rattle.store.proofs.laws.a_replay_has_one_end.Goals as goal

pub returns : goal.returns
returns c = replays_one
