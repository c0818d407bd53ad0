use Rattle.std.proofs.Common.{◌≤◌, arith, length, sym}
use Rattle.tree_model.specs.declared.limits.TheConstants.{MAX_DEPTH}
use Rattle.evaluator.proofs.Pieces.{key-leads}
use Rattle.evaluator.proofs.snapshot.child_at.Goals as goal

pub returns-then-is_key_of : goal.returns-then-is_key_of
returns-then-is_key_of c =
    let room : length c.args.place.now.1 ≤ MAX_DEPTH = omega arith in
    rw (c.of.ensures, ← key-leads c.args.place.now c.args.text.now room (sym c.if-is_key_of.ensures)) c.at_key.ensures
