use Rattle.std.proofs.Common.{◌∙◌, sym}
use Rattle.std.specs.Prelude.{option_map}
use Rattle.evaluator.proofs.Knowing.{auth_part_is}
use Rattle.evaluator.proofs.members.auth_part.Goals as goal

pub returns : goal.returns
returns c = c.auth_part_known.ensures ∙ sym (auth_part_is c.known.result c.args.name.now (option_map (λ a. a.now) c.args.who) c.known.ensures)
