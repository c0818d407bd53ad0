use Rattle.judge.proofs.Tops.{stands_at_root}
use Rattle.judge.proofs.judging.at_root.Goals as goal

pub returns : goal.returns
returns c = stands_at_root _ _ c.root-rule.ensures.one c.root-rule.ensures.node c.root-rule.ensures.listed c.in_ok-here.ensures c.requires.root c.requires.asks
