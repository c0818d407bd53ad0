use Rattle.std.proofs.Common.{option_map, ap, refl, arith}
use Rattle.json.specs.Reads.{token_of}
use Rattle.serde_json.specs.Data.{boolean, null, string, number, object, unsigned}
use Rattle.serde_json.specs.Find.{of_integer}
use Rattle.json_lines.specs.DraftMembers.{drafts_named}
use Rattle.json_lines.proofs.Reading.{as_read, string_read, truth_read, null_read, number_read, object_read}
use Rattle.json_lines.proofs.outline.said_from.Goals as goal

pub returns-in-String-clause-value : goal.returns-in-String-clause-value
returns-in-String-clause-value c = as_read 126 _ _ _ _ _ (string c.in-String.text.now) (ap token_of c.in-String.is) refl (string_read 126 c.in-String.text.now c.args.reader.now)

pub returns-in-Some-clause-value : goal.returns-in-Some-clause-value
returns-in-Some-clause-value c =
    let whole = number (unsigned c.in-Some.whole) in
    as_read 126 _ _ _ _ _ whole (ap token_of c.in-Number.is) refl (number_read 126 c.in-Number.text.now c.args.reader.now whole (ap (option_map number) c.in-Some.ensures))

pub returns-in_ok-negative_of-in-None-clause-value : goal.returns-in_ok-negative_of-in-None-clause-value
returns-in_ok-negative_of-in-None-clause-value c =
    let negative = c.in_ok-negative_of-in-None in
    let value = number (of_integer negative.field-0) in
    as_read 126 _ _ _ _ _ value (ap token_of c.in-Number.is) (grind arith) (number_read 126 c.in-Number.text.now c.args.reader.now value (ap (option_map number) negative.ensures))

pub returns-in-Bool-clause-value : goal.returns-in-Bool-clause-value
returns-in-Bool-clause-value c = as_read 126 _ _ _ _ _ (boolean c.in-Bool.truth) (ap token_of c.in-Bool.is) refl (truth_read 126 c.in-Bool.truth c.args.reader.now)

pub returns-in-Null-clause-value : goal.returns-in-Null-clause-value
returns-in-Null-clause-value c = as_read 126 _ _ _ _ _ null (ap token_of c.in-Null.is) refl (null_read 126 c.args.reader.now)

pub returns-in_ok-named-in-BeginObject-clause-value : goal.returns-in_ok-named-in-BeginObject-clause-value
returns-in_ok-named-in-BeginObject-clause-value c =
    let named = c.in_ok-named-in-BeginObject in
    as_read 126 _ _ _ _ _ (object (drafts_named named.named)) (ap token_of c.in-BeginObject.is) refl (object_read 126 c.args.reader.now c.named_from.new.reader (drafts_named named.named) (omega arith) named.ensures.value)
