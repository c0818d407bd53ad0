use Rattle.std.proofs.Common.{◌∙◌}
use Rattle.rules_reader.proofs.Variables.{variable_is}
use Rattle.rules_reader.proofs.mentions.TreeVariable.is_named.Goals as goal

pub returns : goal.returns
returns c = c.is_known.ensures ∙ variable_is c.args.self c.known.result c.args.name.now c.known.ensures
