use Rattle.json_tree.proofs.DraftWritten.{draft_of_json-value_of, is_lawful_draft-value_of}
use Rattle.json_tree.proofs.json_laws.a_written_draft_is_read_back.Goals as goal

pub returns-clause-draft : goal.returns-clause-draft
returns-clause-draft c = draft_of_json-value_of

pub returns-clause-lawful : goal.returns-clause-lawful
returns-clause-lawful c = is_lawful_draft-value_of
