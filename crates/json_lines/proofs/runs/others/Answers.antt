use Rattle.std.proofs.Common.{arith}
use Rattle.std.proofs.lemmas.Simd.{zip2_splat, zip2_splat_left}
use Rattle.json_lines.specs.Tokens.{is_no_digit}
use Rattle.json_lines.proofs.Sixteens.{below, either, masked}
use Rattle.json_lines.proofs.runs.others.Goals as goal

pub returns : goal.returns
returns c =
    let v = c.args.v in
    let long = c.fits-v.0 in
    masked is_no_digit v _ (omega arith) (either _ _ v (zip2_splat below v 16 48 long) (zip2_splat_left below 57 16 v long))
