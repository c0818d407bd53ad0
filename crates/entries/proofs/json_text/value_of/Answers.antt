use Rattle.std.proofs.Common.{inr}
use Rattle.std.proofs.lemmas.Bool.{false≢true}
use Rattle.entries.proofs.Texts.{value_is, value_is_bad}
use Rattle.entries.proofs.json_text.value_of.Goals as goal

pub returns-in-Ok : goal.returns-in-Ok
returns-in-Ok c = value_is _ _ c.in-Ok.ensures.ok.0 c.in-Ok.ensures.ok.1

pub returns-else-is_memory : goal.returns-else-is_memory
returns-else-is_memory c = inr (value_is_bad _ (c.in-Err.ensures.err (λ m. false≢true (c.if-is_memory.ensures.1 m))))
