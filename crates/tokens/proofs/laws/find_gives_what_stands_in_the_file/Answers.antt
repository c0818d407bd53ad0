use Rattle.tokens.proofs.Secrets.{found}
use Rattle.tokens.proofs.laws.find_gives_what_stands_in_the_file.Goals as goal

pub returns : goal.returns
returns c = found
