use Rattle.std.proofs.Common.{◌≡◌, [], Some, subst, rules}
use Rattle.store.specs.Replay.{empty, opened, Replays}
use Rattle.store.specs.Working.{stage_of}
use Rattle.store.proofs.Replays.{replays_one}
use Rattle.store.specs.declared.fault.ReplayFault.TheVariants.{NoMemory}
use Rattle.store.proofs.Recoveries.{fault_told, unfit_of}
use Rattle.store.proofs.recovering.recover_database.Goals as goal

pub returns-in-Some-clause-recovered : goal.returns-in-Some-clause-recovered
returns-in-Some-clause-recovered g c = λ file holds just.
    let r = c.in-Ok.ensures.recovered file holds just in
    record {
      groups = r.groups;
      rest = r.rest;
      entries = r.entries;
      read = r.read;
      keeps = r.keeps;
      are_in = record { whole = r.whole; small = r.small };
      lead = subst (Replays r.entries empty) c.in-Some.ensures (r.handed_over [] c.new-replayer.ensures);
    }

pub returns-in-Ok-clause-named : goal.returns-in-Ok-clause-named
returns-in-Ok-clause-named g c = λ file holds just.
    let r = c.in-Ok.ensures.recovered file holds just in
    let led = r.handed_over [] c.new-replayer.ensures in
    record {
      identifier = c.in-Ok.chain.identifier;
      groups = r.groups;
      rest = r.rest;
      entries = r.entries;
      read = r.read;
      are_in = record { whole = r.whole; small = r.small };
      none = λ text state lead. c.in-None.ensures text state (replays_one r.entries empty (stage_of c.recover.new.sink.stage) (opened text state) led lead);
    }

pub returns-in-Err-Stopped-clause-named : goal.returns-in-Err-Stopped-clause-named
returns-in-Err-Stopped-clause-named g c = λ file holds just.
    let s = c.in-Err-Stopped.ensures.stopped file holds (search rules) in
    let why = s.refused_last [] c.new-replayer.ensures in
    fault_told file c.recover.new.sink.fault c.fault_of.result c.fault_of.ensures (unfit_of file s.identifier s.groups s.rest s.entries (c.recover.new.sink.fault ≡ Some NoMemory) s.same s.fit s.first why)
