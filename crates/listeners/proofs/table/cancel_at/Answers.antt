use Rattle.std.proofs.Common.{◌≡◌, Option, refl, subst}
use Rattle.std.specs.Prelude.{IfSome}
use Rattle.indexmap.specs.IndexMap.{set_value_at}
use Rattle.listeners.specs.Working.Heard.{cancelled_in}
use Rattle.listeners.specs.declared.table.Heard.{Heard}
use Rattle.listeners.proofs.table.cancel_at.Goals as goal

pub returns-in-Some : goal.returns-in-Some
returns-in-Some c = subst (λ (o : Option Heard). IfSome o (λ heard. set_value_at c.args.held.now.entries c.args.index (cancelled_in c.in-Some.heard.now) ≡ set_value_at c.args.held.now.entries c.args.index (cancelled_in heard))) c.in-Some.ensures.value refl
