use Rattle.std.proofs.Common.{ℕ, List, ◌∙◌, sym, ap, subst}
use Rattle.requests.specs.declared.message.Wanted.{Wanted}
use Rattle.requests.specs.declared.message.Wanted.TheVariants.{Deploy}
use Rattle.requests.specs.Working.Asking.{IsComing}
use Rattle.requests.proofs.ask.event_of.Goals as goal

pub returns-in-Deploy : goal.returns-in-Deploy
returns-in-Deploy c =
    subst (λ (w : Wanted). IsComing c.args.tokens.now w c.deploy.result) (ap (λ (t : List ℕ). Deploy t) c.as_str-in-Deploy.ensures ∙ sym c.in-Deploy.is) (c.deploy.ensures c.args.tokens.now)
