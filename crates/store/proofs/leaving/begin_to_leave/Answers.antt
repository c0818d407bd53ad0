use Rattle.std.proofs.Common.{refl, ◌∙◌}
use Rattle.rtdb_model.specs.declared.event.Event.TheVariants.{Leave}
use Rattle.store.proofs.Departures.{left_nothing}
use Rattle.store.proofs.Steps.{texts, left_more, leave_gives}
use Rattle.store.proofs.leaving.begin_to_leave.Goals as goal

pub returns-then-begun : goal.returns-then-begun
returns-then-begun c = record {
  gone = left_nothing c.args.core.now c.args.now (texts c.args.entries.now.items);
  leaving = record { opened = c.requires.opened; leaving = c.requires.begun ∙ c.if-begun.true; same = refl };
}

pub returns-clause-gone : goal.returns-clause-gone
returns-clause-gone c =
    left_more c.args.entries.now.items c.push.new.self.items c.in_ok-entry.entry c.in_ok-push.ensures.items
    c.args.core.now c.step.new.self c.args.now c.args.session Leave c.step.result c.step.ensures
    (leave_gives c.args.core.now c.step.new.self c.args.now c.args.session c.step.result c.requires.opened (c.requires.begun ∙ c.if-begun.false) c.step.ensures).0
    c.in_ok-entry.ensures

pub returns-clause-leaving : goal.returns-clause-leaving
returns-clause-leaving c = (leave_gives c.args.core.now c.step.new.self c.args.now c.args.session c.step.result c.requires.opened (c.requires.begun ∙ c.if-begun.false) c.step.ensures).1
