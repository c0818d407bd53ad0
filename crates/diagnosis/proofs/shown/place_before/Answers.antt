use Rattle.std.proofs.Common.{◌≡◌, ◌+◌, ◌<◌, length, slice_index, arith}
use Rattle.std.proofs.lemmas.Grind.{common_steps}
use Rattle.diagnosis.proofs.Stopped.{bracket}
use Rattle.diagnosis.proofs.shown.place_before.Goals as goal

pub returns : goal.returns
returns c text spelled are refused =
    let many : c.in_ok-token.token + length refused.0 ≡ length c.args.scanned.now.tokens.items = grind (arith, common_steps) in
    let inside : c.in_ok-token.token < length c.args.scanned.now.places.items = grind (arith, common_steps) in
    let is : c.in_ok-byte.byte.now ≡ slice_index c.args.scanned.now.places.items c.in_ok-token.token = grind (arith, common_steps) in
    bracket text c.args.scanned.now.tokens.items c.args.scanned.now.places.items refused.0 c.in_ok-token.token c.in_ok-byte.byte.now spelled are refused.2 refused.3 many inside is
