use Rattle.std.proofs.Common.{◌++◌}
use Rattle.scripts.proofs.Sending.{Appends-trans}
use Rattle.scripts.proofs.Ending.{Ends-before}
use Rattle.scripts.proofs.script.run.Goals as goal

pub returns-clause-ends : goal.returns-clause-ends
returns-clause-ends g c =
    let r = c.read_all-end.ensures.halts in
    let source = c.read_all-end.new.source in
    let e = c.finish-end.ensures.ends r.0 r.1 (record { left = g.R.Source.left source; failed = g.R.Source.failed source; reads = g.R.Source.reads source }) r.4 in
    (r.0, r.1 ++ e.0, r.2, Appends-trans _ _ _ _ _ r.3 e.1, e.2)

pub returns-in_default-clause-ends : goal.returns-in_default-clause-ends
returns-in_default-clause-ends g c = Ends-before (record { left = g.R.Source.left c.args.source.now; failed = g.R.Source.failed c.args.source.now; reads = g.R.Source.reads c.args.source.now }) _ (g.W.Sink.failed c.args.sink.now)

pub returns-in_default-new-clause-ends : goal.returns-in_default-new-clause-ends
returns-in_default-new-clause-ends g c = Ends-before (record { left = g.R.Source.left c.args.source.now; failed = g.R.Source.failed c.args.source.now; reads = g.R.Source.reads c.args.source.now }) _ (g.W.Sink.failed c.args.sink.now)
