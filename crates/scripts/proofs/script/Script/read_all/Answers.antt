use Rattle.std.proofs.Common.{◌++◌, ◌∙◌, ◌+◌, ap, take}
use Rattle.scripts.specs.declared.desk.Stop.TheVariants as stops
use Rattle.scripts.proofs.Sending.{Appends-trans, Consumes-trans}
use Rattle.scripts.proofs.Feeding.{StopsWithin-at}
use Rattle.scripts.proofs.script.Script.read_all.Goals as goal

pub returns-in-Err-BadHeader-clause-halts : goal.returns-in-Err-BadHeader-clause-halts
returns-in-Err-BadHeader-clause-halts g c =
    let i = c.loop-made.invariant in
    let s = StopsWithin-at _ _ _ _ _ _ _ stops.BadHeader c.in-Err-BadHeader.field-0-is (c.in-Err-BadHeader.ensures.err i.1 i.2 i.5) in
    (i.1 ++ take c.in-Ok.count c.read.new.buffer, i.2 ++ s.0, Consumes-trans _ _ _ _ _ i.3 c.in-Ok.ensures.bytes.0, Appends-trans _ _ _ _ _ i.4 s.1, s.2)

pub returns-in-Err-WriteFault-clause-halts : goal.returns-in-Err-WriteFault-clause-halts
returns-in-Err-WriteFault-clause-halts g c =
    let i = c.loop-made.invariant in
    let s = StopsWithin-at _ _ _ _ _ _ _ stops.WriteFault c.in-Err-WriteFault.field-0-is (c.in-Err-WriteFault.ensures.err i.1 i.2 i.5) in
    (i.1 ++ take c.in-Ok.count c.read.new.buffer, i.2 ++ s.3, Consumes-trans _ _ _ _ _ i.3 c.in-Ok.ensures.bytes.0, Appends-trans _ _ _ _ _ i.4 s.4, (s.0, s.1, s.2, s.5))

pub returns-in-Err-NoMemory-clause-halts : goal.returns-in-Err-NoMemory-clause-halts
returns-in-Err-NoMemory-clause-halts g c =
    let i = c.loop-made.invariant in
    let s = StopsWithin-at _ _ _ _ _ _ _ stops.NoMemory c.in-Err-NoMemory.field-0-is (c.in-Err-NoMemory.ensures.err i.1 i.2 i.5) in
    (i.1 ++ take c.in-Ok.count c.read.new.buffer, i.2 ++ s.1, Consumes-trans _ _ _ _ _ i.3 c.in-Ok.ensures.bytes.0, Appends-trans _ _ _ _ _ i.4 s.2, (s.0, s.3))

pub loop-made-preserved : goal.loop-made-preserved
loop-made-preserved g c =
    let i = c.loop-made.invariant in
    let s = c.in-Ok-answer_piece.ensures.ok i.1 i.2 i.5 in
    ((c.in-Ok.ensures.reads ∙ ap (λ n. n + 1) i.0.0, c.in-Ok.ensures.failed ∙ i.0.1, c.in-Ok-answer_piece.ensures.sound ∙ i.0.2, c.in-Ok-answer_piece.ensures.going), i.1 ++ take c.in-Ok.count c.read.new.buffer, i.2 ++ s.0, Consumes-trans _ _ _ _ _ i.3 c.in-Ok.ensures.bytes.0, Appends-trans _ _ _ _ _ i.4 s.1, s.2)
