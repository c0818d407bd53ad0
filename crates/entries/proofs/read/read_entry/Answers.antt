use Rattle.std.proofs.Common.{refl}
use Rattle.entries.proofs.Reading.{read_nothing, call_read}
use Rattle.entries.proofs.read.read_entry.Goals as goal

pub returns-clause-nothing : goal.returns-clause-nothing
returns-clause-nothing c = read_nothing c.args.bytes.now c.args.bytes.now c.call_entry.result refl (call_read c.args.bytes.now c.call_entry.result c.in_default.ensures.none c.in_default-behind.ensures.none (c.same.ensures.apart c.if-same.false) c.in_default-behind-2.ensures.none c.in_default-behind-3.ensures.none c.call_entry.ensures)
