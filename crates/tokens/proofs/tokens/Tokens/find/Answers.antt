use Rattle.std.proofs.Common.{ap, ◌∙◌}
use Rattle.tokens.specs.Tokens.{identity_named}
use Rattle.tokens.proofs.Secrets.{named_is_lookup}
use Rattle.tokens.proofs.tokens.Tokens.find.Goals as goal

pub returns : goal.returns
returns c = c.get.ensures.value ∙ named_is_lookup c.args.secret.now c.self.inside.held.entries ∙ ap (λ tokens. identity_named tokens c.args.secret.now) c.self.view_is
