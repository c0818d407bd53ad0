use Rattle.tokens.proofs.Secrets.{lawful}
use Rattle.tokens.proofs.laws.each_secret_is_a_text_that_is_not_empty.Goals as goal

pub returns : goal.returns
returns c = lawful
