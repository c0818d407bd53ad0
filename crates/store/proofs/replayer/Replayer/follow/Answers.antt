use Rattle.std.proofs.Common.{ap}
use Rattle.entries.specs.Entry.{meaning_of}
use Rattle.store.specs.declared.fault.ReplayFault.TheVariants.{Unfit}
use Rattle.store.specs.Working.{stage_of}
use Rattle.store.proofs.Taking.{same_error, unfit_entry}
use Rattle.store.proofs.replayer.Replayer.follow.Goals as goal

pub returns-in-Err-clause-unfit : goal.returns-in-Err-clause-unfit
returns-in-Err-clause-unfit c = λ unfit.
    unfit_entry c.args.entry.now (meaning_of c.in_ok-entry.entry) (stage_of c.args.self.now.stage) (stage_of c.replace-stage.result) c.in-Err.fault c.in_ok-entry.ensures.means (ap stage_of c.replace-stage.ensures.value) c.in-Err.ensures (same_error c.in-Err.fault Unfit unfit)
