use Rattle.std.proofs.Common.{ap, ◌∙◌}
use Rattle.json_tree.specs.Json.{is_lawful}
use Rattle.json_tree.proofs.Forms.{filled_lawful, draft_lawful}
use Rattle.json_tree.proofs.json_laws.a_lawful_value_is_its_tree.Goals as goal

pub returns-clause-lawful : goal.returns-clause-lawful
returns-clause-lawful c = λ d h. ap is_lawful (filled_lawful d h) ∙ h

pub returns-clause-tree : goal.returns-clause-tree
returns-clause-tree c = λ d h. draft_lawful d h
