use Rattle.std.proofs.Common.{inr}
use Rattle.std.proofs.lemmas.Bool.{false≢true}
use Rattle.json_lines.proofs.Messages.{value_is, value_is_bad}
use Rattle.json_lines.proofs.value.read_value.Goals as goal

pub returns-in-Ok-clause-value : goal.returns-in-Ok-clause-value
returns-in-Ok-clause-value c = value_is _ _ c.if-bytes-gt-MAX_MESSAGE_BYTES.false c.in-Ok.ensures.ok.0 c.in-Ok.ensures.ok.1

pub returns-else-is_memory-clause-value : goal.returns-else-is_memory-clause-value
returns-else-is_memory-clause-value c =
    inr (value_is_bad _ c.if-bytes-gt-MAX_MESSAGE_BYTES.false (c.in-Err.ensures.err (λ m. false≢true (c.if-is_memory.ensures.1 m))))
