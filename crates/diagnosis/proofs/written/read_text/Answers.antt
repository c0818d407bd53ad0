use Rattle.std.proofs.Common.{◌∙◌, sym, arith}
use Rattle.std.proofs.lemmas.Bool.{false≢true}
use Rattle.rules_reader.proofs.JsonTexts.{json_of-long, json_of-short, json_of-refused}
use Rattle.diagnosis.proofs.written.read_text.Goals as goal

pub returns-then-text-gt-MAX_FILE_BYTES : goal.returns-then-text-gt-MAX_FILE_BYTES
returns-then-text-gt-MAX_FILE_BYTES c = sym (json_of-long c.args.text.now (omega arith))

pub returns-in-Ok : goal.returns-in-Ok
returns-in-Ok c = sym (json_of-short c.args.text.now (omega arith) c.in-Ok.ensures.ok.0 ∙ c.in-Ok.ensures.ok.1)

pub returns-else-is_memory : goal.returns-else-is_memory
returns-else-is_memory c = sym (json_of-refused c.args.text.now (omega arith) (c.in-Err.ensures.err (λ memory. false≢true (sym c.if-is_memory.false ∙ c.is_memory.ensures.1 memory))))
