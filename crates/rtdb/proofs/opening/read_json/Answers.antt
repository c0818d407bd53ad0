use Rattle.std.proofs.Common.{ap, inr}
use Rattle.std.proofs.lemmas.Bool.{false≢true}
use Rattle.json_lines.specs.declared.fault.MessageFault.TheVariants.{BadJson}
use Rattle.json_lines.specs.Lines.{or_fault}
use Rattle.tokens.proofs.Texts.{value_is, value_is_bad}
use Rattle.rtdb.proofs.opening.read_json.Goals as goal

pub returns-in-Ok : goal.returns-in-Ok
returns-in-Ok c = ap (or_fault BadJson) (value_is _ _ c.in-Ok.ensures.ok.0 c.in-Ok.ensures.ok.1)

pub returns-else-is_memory : goal.returns-else-is_memory
returns-else-is_memory c = inr (ap (or_fault BadJson) (value_is_bad _ (c.in-Err.ensures.err (λ m. false≢true (c.if-is_memory.ensures.1 m)))))
