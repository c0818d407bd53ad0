use Rattle.std.proofs.Common.{inr, refl, ◌∙◌, sym, arith}
use Rattle.std.proofs.lemmas.Bool.{false≢true}
use Rattle.rules_reader.proofs.JsonTexts.{json_of-short, json_of-refused}
use Rattle.rules_reader.proofs.file.read_text.Goals as goal

pub returns-in-Ok-clause-ok : goal.returns-in-Ok-clause-ok
returns-in-Ok-clause-ok c = json_of-short c.args.text.now (omega arith) c.in-Ok.ensures.ok.0 ∙ c.in-Ok.ensures.ok.1

pub returns-else-is_memory-clause-err : goal.returns-else-is_memory-clause-err
returns-else-is_memory-clause-err c = inr (refl, json_of-refused c.args.text.now (omega arith) (c.in-Err.ensures.err (λ memory. false≢true (sym c.if-is_memory.false ∙ c.is_memory.ensures.1 memory))))
