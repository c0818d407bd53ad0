use Rattle.expr_tokens.proofs.Texts.{meaning_said}
use Rattle.expr_tokens.proofs.quoted.Quoted.of_written.Goals as goal

pub returns : goal.returns
returns c = meaning_said c.args.written.now c.requires
