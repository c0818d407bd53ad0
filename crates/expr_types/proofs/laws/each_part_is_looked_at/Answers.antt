use Rattle.expr_types.proofs.Looking.{each_part}
use Rattle.expr_types.proofs.laws.each_part_is_looked_at.Goals as goal

pub returns : goal.returns
returns c place names x part s d i = each_part place names x d i
