use Rattle.entries.proofs.Texts.{value_is}
use Rattle.entries.proofs.json_text.text_of.Goals as goal

pub returns : goal.returns
returns c = value_is _ _ c.in_ok-text.ensures.utf8 (c.in_ok-text.ensures.reads_back c.requires)
