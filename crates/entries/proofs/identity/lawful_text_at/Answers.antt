use Rattle.std.proofs.Common.{sym, ◌∙◌}
use Rattle.json_tree.proofs.Limits.{text_length}
use Rattle.entries.proofs.identity.lawful_text_at.Goals as goal

pub returns-then-is_lawful_text-clause-within : goal.returns-then-is_lawful_text-clause-within
returns-then-is_lawful_text-clause-within c = text_length c.in_ok-text.text.now (sym c.is_lawful_text.ensures ∙ c.if-is_lawful_text.true)
