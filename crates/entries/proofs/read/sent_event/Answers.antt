use Rattle.entries.proofs.Reading.{wanted_sent}
use Rattle.entries.proofs.read.sent_event.Goals as goal

pub returns-in-Ok : goal.returns-in-Ok
returns-in-Ok c = wanted_sent c.args.stamp c.args.message.now c.in-Ok.request c.wanted_event.result c.in-Ok.ensures.asked c.wanted_event.ensures
