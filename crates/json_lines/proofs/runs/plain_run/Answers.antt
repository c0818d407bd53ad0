use Rattle.std.proofs.Common.{◌≤◌, ◌+◌, length, ap, not, arith}
use Rattle.std.proofs.lemmas.Simd.{run_in_chunk_le, run_in_chunk_stops}
use Rattle.json_lines.specs.Tokens.{is_plain, is_stop}
use Rattle.json_lines.proofs.Sixteens.{pass_on}
use Rattle.json_lines.proofs.runs.plain_run.Goals as goal

pub overflow_add-n : goal.overflow_add-n
overflow_add-n c =
    let count = c.plain_lanes-count in
    let bytes = c.args.bytes.now in
    let n = c.loop-n.n in
    let room : n + 16 ≤ length bytes = omega (arith, c.loop-n-test.true, c.loop-n.invariant.within) in
    let le = run_in_chunk_le is_stop bytes n 16 count.result 0 room count.ensures in
    grind (arith, le, room)

pub returns-then-count-lt-STEP-clause-passes : goal.returns-then-count-lt-STEP-clause-passes
returns-then-count-lt-STEP-clause-passes c =
    let count = c.plain_lanes-count in
    pass_on is_plain c.args.bytes.now c.loop-n.n count.result c.loop-n.invariant.passes (omega (arith, c.if-count-lt-STEP.true)) count.ensures

pub returns-then-count-lt-STEP-clause-stops : goal.returns-then-count-lt-STEP-clause-stops
returns-then-count-lt-STEP-clause-stops c h =
    let count = c.plain_lanes-count in
    let bytes = c.args.bytes.now in
    let n = c.loop-n.n in
    let room : n + 16 ≤ length bytes = omega (arith, c.loop-n-test.true, c.loop-n.invariant.within) in
    ap not (run_in_chunk_stops is_stop bytes n 16 count.result 0 room count.ensures (omega (arith, c.if-count-lt-STEP.true)))

pub loop-n-preserved : goal.loop-n-preserved
loop-n-preserved c =
    let count = c.plain_lanes-count in
    let bytes = c.args.bytes.now in
    let n = c.loop-n.n in
    let room : n + 16 ≤ length bytes = omega (arith, c.loop-n-test.true, c.loop-n.invariant.within) in
    let le = run_in_chunk_le is_stop bytes n 16 count.result 0 room count.ensures in
    record {
      within = omega (arith, le, room);
      passes = pass_on is_plain bytes n count.result c.loop-n.invariant.passes (omega (arith, le)) count.ensures;
    }
