use Rattle.tokens.proofs.Named.{claim_stands}
use Rattle.tokens.proofs.laws.a_claim_is_what_stands_in_the_file.Goals as goal

pub returns : goal.returns
returns c = claim_stands
