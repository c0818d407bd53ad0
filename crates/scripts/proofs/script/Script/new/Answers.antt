use Rattle.scripts.proofs.Feeding.{Follows-nothing}
use Rattle.scripts.proofs.script.Script.new.Goals as goal

pub returns-clause-after : goal.returns-clause-after
returns-clause-after c =
    Follows-nothing _ _ _ _ c.in_ok-desk.ensures.0 c.new-2.ensures c.in_ok-desk.ensures.1
