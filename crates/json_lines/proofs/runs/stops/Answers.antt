use Rattle.std.proofs.Common.{arith}
use Rattle.std.proofs.lemmas.Simd.{zip2_splat}
use Rattle.json_lines.specs.Tokens.{is_stop}
use Rattle.json_lines.proofs.Sixteens.{equal, below, either, masked}
use Rattle.json_lines.proofs.runs.stops.Goals as goal

pub returns : goal.returns
returns c =
    let v = c.args.v in
    let long = c.fits-v.0 in
    masked is_stop v _ (omega arith) (either _ _ v (either _ _ v (zip2_splat equal v 16 34 long) (zip2_splat equal v 16 92 long)) (zip2_splat below v 16 32 long))
