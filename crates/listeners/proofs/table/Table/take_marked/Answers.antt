use Rattle.std.proofs.Common.{rules, ◌∙◌, ap}
use Rattle.listeners.specs.Table.{taken}
use Rattle.listeners.proofs.Heards.{retained}
use Rattle.listeners.proofs.table.Table.take_marked.Goals as goal

pub returns : goal.returns
returns c = retained _ _ (λ k v b w f t. search rules) c.self.inside.held.entries _ c.retain.ensures.filtered ∙ ap taken c.self.view_is
