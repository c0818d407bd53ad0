use Rattle.entries.proofs.Reading.{no_tokens}
use Rattle.entries.proofs.laws.what_is_asked_by_no_secret_needs_no_tokens.Goals as goal

pub returns : goal.returns
returns c = no_tokens
