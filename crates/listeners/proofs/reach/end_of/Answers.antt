use Rattle.std.proofs.Common.{List, ℕ, option_map, ap, sym, subst}
use Rattle.std.specs.Borrow.{Bor}
use Rattle.arena_snapshot.specs.Working.Change.{entries_of}
use Rattle.listeners.specs.Working.Reach.{IsEnd}
use Rattle.listeners.proofs.Reaching.{end_none}
use Rattle.listeners.proofs.reach.end_of.Goals as goal

pub returns-in-None : goal.returns-in-None
returns-in-None c = subst (λ bound. IsEnd (entries_of c.args.view.now) bound c.width.result) (ap (option_map (λ (key : Bor (List ℕ)). key.now)) (sym c.in-None.is)) (end_none c.args.view.now c.width.result c.width.ensures)
