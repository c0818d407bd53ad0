use Rattle.scripts.specs.declared.desk.Stop.TheVariants as stops
use Rattle.scripts.specs.declared.script.ScriptEnd.TheVariants as ends
use Rattle.scripts.proofs.Ending.{Halts-at, StopsAfter-at, Ends-last, Ends-last-refused, Ends-last-no-memory, Ends-last-broken, Ends-refused, Ends-no-memory, Ends-read-fault, Ends-broken}
use Rattle.scripts.proofs.script.Script.finish.Goals as goal

pub returns-in-Ok-clause-ends : goal.returns-in-Ok-clause-ends
returns-in-Ok-clause-ends g c = λ taken sent source h.
    let f = Halts-at _ ends.Finished source _ _ taken sent c.in-Finished.is h in
    Ends-last _ _ _ _ _ source f.1 f.0 _ c.in-Ok.ensures.going _ (c.in-Ok.ensures.ok f.1.lines f.1.rest sent f.1.holds f.1.stands) c.send.ensures.sends

pub returns-in-Err-BadHeader-clause-ends : goal.returns-in-Err-BadHeader-clause-ends
returns-in-Err-BadHeader-clause-ends g c = λ taken sent source h.
    let f = Halts-at _ ends.Finished source _ _ taken sent c.in-Finished.is h in
    let s = StopsAfter-at _ _ _ _ f.1.lines f.1.rest sent _ stops.BadHeader c.in-Err-BadHeader.field-0-is (c.in-Err-BadHeader.ensures.err f.1.lines f.1.rest sent f.1.holds f.1.stands) in
    Ends-last-refused _ _ _ _ _ source f.1 f.0 _ s c.send-in-Err-BadHeader.ensures.sends

pub returns-in-Err-WriteFault-clause-ends : goal.returns-in-Err-WriteFault-clause-ends
returns-in-Err-WriteFault-clause-ends g c = λ taken sent source h.
    let f = Halts-at _ ends.Finished source _ _ taken sent c.in-Finished.is h in
    let s = StopsAfter-at _ _ _ _ f.1.lines f.1.rest sent _ stops.WriteFault c.in-Err-WriteFault.field-0-is (c.in-Err-WriteFault.ensures.err f.1.lines f.1.rest sent f.1.holds f.1.stands) in
    Ends-last-broken ends.WriteFault _ (g.W.Sink.written c.args.sink.now) _ _ source f.1 f.0 s.1 s.2 s.0 s.3

pub returns-in-Err-NoMemory-clause-ends : goal.returns-in-Err-NoMemory-clause-ends
returns-in-Err-NoMemory-clause-ends g c = λ taken sent source h.
    let f = Halts-at _ ends.Finished source _ _ taken sent c.in-Finished.is h in
    let s = StopsAfter-at _ _ _ _ f.1.lines f.1.rest sent _ stops.NoMemory c.in-Err-NoMemory.field-0-is (c.in-Err-NoMemory.ensures.err f.1.lines f.1.rest sent f.1.holds f.1.stands) in
    Ends-last-no-memory _ _ _ _ _ source f.1 f.0 s.0 s.1 _ s.2 c.send-in-Err-NoMemory.ensures.sends

pub returns-in-BadHeader-clause-ends : goal.returns-in-BadHeader-clause-ends
returns-in-BadHeader-clause-ends g c = λ taken sent source h.
    Ends-refused _ _ _ _ source _ taken sent (Halts-at _ ends.BadHeader source _ _ taken sent c.in-BadHeader.is h) c.send-in-BadHeader.ensures.sends

pub returns-in-ReadFault-clause-ends : goal.returns-in-ReadFault-clause-ends
returns-in-ReadFault-clause-ends g c = λ taken sent source h.
    let f = Halts-at _ ends.ReadFault source _ _ taken sent c.in-ReadFault.is h in
    Ends-read-fault _ _ _ _ source f.1 f.0 f.2 c.send-in-ReadFault.ensures.sends

pub returns-in-NoMemory-clause-ends : goal.returns-in-NoMemory-clause-ends
returns-in-NoMemory-clause-ends g c = λ taken sent source h.
    let f = Halts-at _ ends.NoMemory source _ _ taken sent c.in-NoMemory.is h in
    Ends-no-memory _ _ _ _ source f.0 _ taken sent f.1 c.send-in-NoMemory.ensures.sends

pub returns-in-WriteFault-clause-ends : goal.returns-in-WriteFault-clause-ends
returns-in-WriteFault-clause-ends g c = λ taken sent source h.
    let f = Halts-at _ ends.WriteFault source _ _ taken sent c.in-WriteFault.is h in
    Ends-broken _ _ source f.1 f.2 taken sent f.0 f.3
