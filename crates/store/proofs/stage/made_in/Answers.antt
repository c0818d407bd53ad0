use Rattle.std.proofs.Common.{string_bytes}
use Rattle.store.proofs.Making.{made_with}
use Rattle.store.proofs.stage.made_in.Goals as goal

pub returns-in-Ok : goal.returns-in-Ok
returns-in-Ok c =
    made_with (string_bytes c.args.rules) c.args.core c.step_again.new.core (record { now = c.args.now; session = c.args.session; event = c.args.event }) c.args.deployed c.with_text.result c.in-Ok.ensures c.with_text.ensures.text c.with_text.ensures.memory
