use Rattle.std.proofs.Common.{sym, ◌∙◌}
use Rattle.json_tree.proofs.Limits.{text_length}
use Rattle.entries.proofs.identity.words_of.Goals as goal

pub words-requires : goal.words-requires
words-requires c = text_length c.args.text.now (sym c.is_lawful_text.ensures ∙ c.if-not-is_lawful_text.false)
