use Rattle.json_tree.proofs.Written.{of_json-value_of, is_lawful-value_of}
use Rattle.json_tree.proofs.json_laws.what_is_written_is_read_back.Goals as goal

pub returns-clause-tree : goal.returns-clause-tree
returns-clause-tree c = of_json-value_of

pub returns-clause-lawful : goal.returns-clause-lawful
returns-clause-lawful c = is_lawful-value_of
