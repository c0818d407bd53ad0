use Rattle.store.specs.Working.{stage_of}
use Rattle.store.proofs.Taking.{taken_on, refused_by}
use Rattle.store.proofs.replayer.ReplayerSink.take.Goals as goal

pub returns-in-Ok-clause-taken : goal.returns-in-Ok-clause-taken
returns-in-Ok-clause-taken c = λ before replayed. taken_on before c.args.entry.now (stage_of c.args.self.now.stage) (stage_of c.follow.new.self.stage) replayed c.in-Ok.ensures.follows

pub returns-in-Err-clause-refused : goal.returns-in-Err-clause-refused
returns-in-Err-clause-refused c = λ before replayed. refused_by before c.args.entry.now (stage_of c.args.self.now.stage) c.in-Err.fault replayed c.in-Err.ensures.unfit
