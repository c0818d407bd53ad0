use Rattle.std.proofs.Common.{◌∙◌, sym}
use Rattle.evaluator.specs.Env.{env_of}
use Rattle.evaluator.proofs.Knowing.{variable_is}
use Rattle.evaluator.proofs.members.variable.Goals as goal

pub returns : goal.returns
returns c = c.variable_known.ensures ∙ sym (variable_is c.known.result c.args.name.now (env_of c.args.env.now) c.known.ensures)
