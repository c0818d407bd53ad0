use Rattle.std.proofs.Common.{◌∙◌, ap}
use Rattle.listeners.specs.Table.{has_id}
use Rattle.listeners.proofs.Heards.{has_is}
use Rattle.listeners.proofs.table.Table.has.Goals as goal

pub returns : goal.returns
returns c = c.contains_key.ensures ∙ has_is c.args.id.now c.self.inside.held.entries ∙ ap (has_id c.args.id.now) c.self.view_is
