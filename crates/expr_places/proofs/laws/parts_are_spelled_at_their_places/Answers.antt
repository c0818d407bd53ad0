use Rattle.expr_places.proofs.Spelled.{parts_spelled}
use Rattle.expr_places.proofs.laws.parts_are_spelled_at_their_places.Goals as goal

pub returns : goal.returns
returns c n d from to x h = parts_spelled h
