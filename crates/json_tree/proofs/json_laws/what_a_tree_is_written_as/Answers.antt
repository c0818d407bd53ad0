use Rattle.json_tree.proofs.Written.{value_of-lone, value_of-graft, value_of-null}
use Rattle.json_tree.proofs.json_laws.what_a_tree_is_written_as.Goals as goal

pub returns-clause-primitive : goal.returns-clause-primitive
returns-clause-primitive c = value_of-lone

pub returns-clause-children : goal.returns-clause-children
returns-clause-children c = value_of-graft

pub returns-clause-nothing : goal.returns-clause-nothing
returns-clause-nothing c = value_of-null
