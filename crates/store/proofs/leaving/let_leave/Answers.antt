use Rattle.std.proofs.lemmas.Result.{on_ok_weaker}
use Rattle.store.proofs.Departures.{left_then}
use Rattle.store.proofs.Steps.{texts}
use Rattle.store.proofs.leaving.let_leave.Goals as goal

pub returns-clause-gone : goal.returns-clause-gone
returns-clause-gone c =
    on_ok_weaker c.close.result
    (left_then c.args.core.now c.run_all.new.core c.close.new.core c.args.now (texts c.args.entries.now.items) (texts c.run_all.new.entries.items) (texts c.close.new.entries.items)
    (left_then c.args.core.now c.begin_to_leave.new.core c.run_all.new.core c.args.now (texts c.args.entries.now.items) (texts c.begin_to_leave.new.entries.items) (texts c.run_all.new.entries.items)
    c.in_ok-begin_to_leave.ensures.gone c.in_ok-run_all.ensures.gone))
    c.close.ensures.gone
