use Rattle.std.proofs.Common.{◌≡◌, ◌+◌, ◌-◌, ◌≤◌, ◌∙◌, length, arith}
use Rattle.scripts.proofs.Keeping.{front-append-part, front-append-all}
use Rattle.scripts.proofs.line.keep.Goals as goal
use Rattle.scripts.specs.Working.Parts.{FRONT_BYTES}

pub returns-in_ok-extend_from_slice-clause-ok : goal.returns-in_ok-extend_from_slice-clause-ok
returns-in_ok-extend_from_slice-clause-ok c =
    let kept = c.args.kept.now.items in
    let short : length kept ≤ FRONT_BYTES = omega (arith, c.args.kept.now.ok.0) in
    let room : FRONT_BYTES - c.len.result ≡ FRONT_BYTES - length kept = omega (arith, c.args.kept.now.ok.0) in
    c.in_ok-extend_from_slice.ensures.items ∙ front-append-part kept c.args.piece.now (FRONT_BYTES - c.len.result) short room

pub returns-in_ok-extend_from_slice-2-clause-ok : goal.returns-in_ok-extend_from_slice-2-clause-ok
returns-in_ok-extend_from_slice-2-clause-ok c =
    let kept = c.args.kept.now.items in
    let short : length kept + length c.args.piece.now ≤ FRONT_BYTES = omega (arith, c.args.kept.now.ok.0) in
    c.in_ok-extend_from_slice-2.ensures.items ∙ front-append-all kept c.args.piece.now short
