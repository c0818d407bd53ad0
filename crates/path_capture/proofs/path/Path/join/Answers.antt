use Rattle.std.proofs.Common.{◌≤◌, ◌++◌, [], length, length-append, ap, ◌∙◌, refl, arith}
use Rattle.std.proofs.lemmas.Bool.Decides.{nat_tests}
use Rattle.tree_model.specs.declared.limits.TheConstants.{MAX_DEPTH}
use Rattle.tree_model.specs.Path.{Path, is_path}
use Rattle.tree_model.proofs.Lawful.{path_keys, is_path_from, keys-append}
use Rattle.path_capture.proofs.path.Path.join.Goals as goal

pub invariant_of-self-2 : goal.invariant_of-self-2
invariant_of-self-2 c =
    let own : Path = c.self.inside.held.items in
    let other : Path = c.below.inside.held.items in
    let all = length-append own other in
    let short : length (own ++ other) ≤ MAX_DEPTH = grind (arith, nat_tests) in
    ap is_path c.in_ok-append.ensures.ok ∙ is_path_from (own ++ other) (keys-append own other (path_keys _ c.self.invariant) (path_keys _ c.below.invariant)) short

pub invariant_of-below-2 : goal.invariant_of-below-2
invariant_of-below-2 c = ap is_path c.in_ok-append.ensures.moved ∙ is_path_from [] refl (omega arith)
