use Rattle.std.proofs.Common.{◌≤◌, ◌<◌, ◌+◌, length, refl, arith}
use Rattle.tree_model.specs.declared.limits.TheConstants.{MAX_DEPTH}
use Rattle.tree_model.specs.PathMap.{depth}
use Rattle.tree_model.specs.Draft.{null_draft}
use Rattle.tree_model.proofs.Writes.{depth-null_draft}
use Rattle.rtdb_model.proofs.Paths.{short_path}
use Rattle.rtdb_model.proofs.removal.Removal.of.Goals as goal

pub unreachable-requires : goal.unreachable-requires
unreachable-requires c =
    let short : length c.args.path ≤ MAX_DEPTH = short_path c.args.path c.keys.ensures.lawful in
    let deep : MAX_DEPTH < length c.args.path + depth null_draft = c.in_default.ensures.too_deep.0 refl in
    let none = depth-null_draft in
    omega arith
