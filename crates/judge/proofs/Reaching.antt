-- Laws of what is granted.
use Rattle.std.proofs.Common.{◌≡◌, true, ◌++◌, ap, ◌∙◌, append_assoc}
use Rattle.tree_model.specs.Path.{Path, is_prefix}
use Rattle.tree_model.proofs.Paths.{prefix-append}
use Rattle.tree_model.proofs.Merging.{prefix_is}
use Rattle.rules_reader.specs.declared.kind.Kind.{Kind}
use Rattle.judge.specs.Question.{Question}
use Rattle.judge.specs.Granting.{IsGranted}

-- what is granted at a path is granted at and below it
pub granted_below : (q : Question) (kind : Kind) (p r : Path) → IsGranted q kind p → IsGranted q kind (p ++ r)
granted_below q kind p r g = record { place = g.place; above = longer; holds = g.holds }
  where
    longer : is_prefix g.place (p ++ r) ≡ true
    longer =
        let rest = prefix_is g.place p g.above in
        ap (λ x. is_prefix g.place (x ++ r)) rest.1 ∙ ap (is_prefix g.place) (append_assoc g.place rest.0 r) ∙ prefix-append g.place (rest.0 ++ r)
