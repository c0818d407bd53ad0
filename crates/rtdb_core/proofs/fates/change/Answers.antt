use Rattle.listeners.specs.Listener.{seen}
use Rattle.rtdb_core.proofs.Fatings.{cancelled_stays}
use Rattle.rtdb_core.proofs.fates.change.Goals as goal

pub returns-else-entry : goal.returns-else-entry
returns-else-entry c = cancelled_stays c.args.fate c.args.table.now c.args.index (seen c.entry.result) c.entry.ensures c.if-entry.false
