use Rattle.std.proofs.Common.{ap}
use Rattle.json.specs.Reads.{token_of}
use Rattle.json_tree.proofs.DraftWritten.{value_of_draft-null}
use Rattle.serde_json.specs.Data.{null}
use Rattle.json_lines.proofs.Reading.{as_read, null_read}
use Rattle.json_lines.proofs.nested.draft_or_null_from.Goals as goal

pub returns-in-Null-clause-value : goal.returns-in-Null-clause-value
returns-in-Null-clause-value c = as_read c.args.depth _ _ _ _ _ null (ap token_of c.in-Null.is) value_of_draft-null (null_read c.args.depth c.args.reader.now)
