use Rattle.std.proofs.Common.{Ok, Err, inr, ap, sym, ◌∙◌}
use Rattle.tree_model.specs.Draft.{Draft}
use Rattle.json_lines.proofs.Drafts.{tree_drafted, deep_drafted}
use Rattle.json_lines.proofs.writes.draft_of_value.Goals as goal

pub returns-in-Ok : goal.returns-in-Ok
returns-in-Ok c = tree_drafted _ c.in-Ok.tree c.in-Ok.ensures.lawful c.in-Ok.ensures.depth c.in-Ok.ensures.tree ∙ ap (λ (d : Draft). Ok d) (sym c.fixed.ensures)

pub returns-in-Err-TooDeep : goal.returns-in-Err-TooDeep
returns-in-Err-TooDeep c = let both = c.in-Err-TooDeep.ensures.too_deep.0 (ap (λ fault. Err fault) c.in-Err-TooDeep.field-0-is) in inr (deep_drafted _ both.0 both.1)
