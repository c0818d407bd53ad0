use Rattle.std.proofs.Common.{ℕ, List, refl, subst}
use Rattle.rules_reader.specs.File.{States}
use Rattle.requests.proofs.ask.deploy.Goals as goal

pub returns : goal.returns
returns c = λ tokens. (c.in_ok-rules.rules, subst (λ (text : List ℕ). States text c.in_ok-rules.rules) c.as_bytes.ensures.value c.in_ok-rules.ensures.accepted, c.root.ensures.one, refl)
