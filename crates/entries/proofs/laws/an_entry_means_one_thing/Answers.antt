use Rattle.entries.proofs.Meanings.{means_one}
use Rattle.entries.proofs.laws.an_entry_means_one_thing.Goals as goal

pub returns : goal.returns
returns c = means_one
