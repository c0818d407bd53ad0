use Rattle.std.proofs.Common.{sym, ◌∙◌}
use Rattle.rules_reader.proofs.Ahead.{used_found, used_not_here}
use Rattle.rules_reader.proofs.shape.is_used.Goals as goal

pub returns-then-has_text : goal.returns-then-has_text
returns-then-has_text c = used_found c.args.text.now c.args.pattern.now c.loop-i.i c.part.result c.unwrap.result c.unwrap.ensures c.part.ensures (sym c.has_text.ensures ∙ c.if-has_text.true) c.loop-i.invariant

pub loop-i-preserved : goal.loop-i-preserved
loop-i-preserved c = used_not_here c.args.text.now c.args.pattern.now c.loop-i.i c.part.result c.unwrap.result c.unwrap.ensures c.part.ensures (sym c.has_text.ensures ∙ c.if-has_text.false) c.loop-i.invariant
