use Rattle.rtdb_model.specs.declared.event.Event.TheVariants.{Close}
use Rattle.store.proofs.Steps.{left_more, close_gives}
use Rattle.store.proofs.leaving.close.Goals as goal

pub returns-clause-gone : goal.returns-clause-gone
returns-clause-gone c =
    left_more c.args.entries.now.items c.push.new.self.items c.in_ok-entry.entry c.in_ok-push.ensures.items
    c.args.core.now c.step.new.self c.args.now c.args.session Close c.step.result c.step.ensures
    (close_gives c.args.core.now c.step.new.self c.args.now c.args.session c.step.result c.requires.opened c.requires.none c.step.ensures).0
    c.in_ok-entry.ensures

pub returns-clause-fewer : goal.returns-clause-fewer
returns-clause-fewer c = (close_gives c.args.core.now c.step.new.self c.args.now c.args.session c.step.result c.requires.opened c.requires.none c.step.ensures).1
