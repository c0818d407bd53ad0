use Rattle.json_tree.proofs.DraftWritten.{value_of_draft-lone, value_of_draft-graft, value_of_draft-null, value_of_draft-as_draft}
use Rattle.json_tree.proofs.json_laws.what_a_draft_is_written_as.Goals as goal

pub returns-clause-part : goal.returns-clause-part
returns-clause-part c = value_of_draft-lone

pub returns-clause-children : goal.returns-clause-children
returns-clause-children c = value_of_draft-graft

pub returns-clause-nothing : goal.returns-clause-nothing
returns-clause-nothing c = value_of_draft-null

pub returns-clause-tree : goal.returns-clause-tree
returns-clause-tree c = value_of_draft-as_draft
