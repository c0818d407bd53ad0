use Rattle.std.proofs.Common.{List, ℕ, refl, subst, ◌∙◌}
use Rattle.rules_reader.specs.File.{States}
use Rattle.entries.proofs.Reading.{unlawful_rules}
use Rattle.entries.proofs.read.deployed.Goals as goal

pub returns-in-Ok : goal.returns-in-Ok
returns-in-Ok c = ((c.in-Ok.rules, subst (λ (t : List ℕ). States t c.in-Ok.rules) (c.as_bytes.ensures.value ∙ c.as_str.ensures) c.in-Ok.ensures.accepted, c.root.ensures.one, refl), refl)

pub returns-in-Err : goal.returns-in-Err
returns-in-Err c = unlawful_rules c.args.text c.as_bytes.result.now c.in-Err.fault c.fault_of_rules.result (c.as_bytes.ensures.value ∙ c.as_str.ensures) c.in-Err.ensures.refused c.fault_of_rules.ensures
