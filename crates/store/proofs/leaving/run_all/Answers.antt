use Rattle.std.proofs.Common.{Bool, true, refl, ◌∙◌, subst}
use Rattle.rtdb_model.specs.declared.event.Event.TheVariants.{RunNext}
use Rattle.store.specs.LeavingWorking.{HasRun}
use Rattle.store.proofs.Departures.{left_nothing, left_then}
use Rattle.store.proofs.Steps.{texts, left_more}
use Rattle.store.proofs.leaving.run_all.Goals as goal

pub actions-init : goal.actions-init
actions-init c = record {
  gone = left_nothing c.args.core.now c.args.now (texts c.args.entries.now.items);
  leaving = record { opened = c.requires.opened; leaving = c.requires.leaving; same = refl };
}

pub actions-preserved : goal.actions-preserved
actions-preserved c =
    let ran : HasRun c.actions.core c.args.now c.args.session c.run_first.new.core true = subst (λ (some : Bool). HasRun c.actions.core c.args.now c.args.session c.run_first.new.core some) c.if-branch.true c.in_ok-run_first.ensures in
    record {
      gone = left_then c.args.core.now c.actions.core c.run_first.new.core c.args.now (texts c.args.entries.now.items) (texts c.actions.entries.items) (texts c.push.new.self.items) c.actions.invariant.gone
          (left_more c.actions.entries.items c.push.new.self.items c.in_ok-entry.entry c.in_ok-push.ensures.items
          c.actions.core c.run_first.new.core c.args.now c.args.session RunNext ran.0 ran.1 ran.2 c.in_ok-entry.ensures);
      leaving = record { opened = ran.3.opened; leaving = ran.3.leaving; same = ran.3.same ∙ c.actions.invariant.leaving.same };
    }
