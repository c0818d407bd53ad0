use Rattle.std.proofs.Common.{sym, subst}
use Rattle.locked_server.specs.Known.{SeesLegal}
use Rattle.kept_calls.proofs.Putting.{placed}
use Rattle.kept_calls.proofs.journal_caller.JournalCallerCaller.call.Goals as goal

pub put-requires-clause-entry : goal.put-requires-clause-entry
put-requires-clause-entry g c =
    placed c.args.seat.now c.call-called.new.seat c.args.now c.args.session c.call-called.result.changes c.args.event c.call-called.result.reply c.entry_of-entry.result c.call-called.ensures.made c.call-called.ensures.changes
    c.entry_of-entry.ensures

pub returns-clause-legal : goal.returns-clause-legal
returns-clause-legal g c = subst SeesLegal (sym c.put.ensures) c.call-called.ensures.legal
