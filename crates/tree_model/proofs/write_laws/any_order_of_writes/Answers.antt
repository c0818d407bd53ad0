-- By the trees that are put.
use Rattle.std.proofs.Common.{◌∙◌}
use Rattle.std.proofs.lemmas.List.Sorted.{IsPermutation-map}
use Rattle.tree_model.specs.Write.{made, all_made}
use Rattle.tree_model.proofs.Order.{merged-permutation}
use Rattle.tree_model.proofs.Drafts.{overlaps-made}
use Rattle.tree_model.proofs.write_laws.any_order_of_writes.Goals as goal

pub returns : goal.returns
returns c = λ t ws xs now same apart. merged-permutation t (all_made now ws) (all_made now xs) (IsPermutation-map (made now) ws xs same) (overlaps-made now ws ∙ apart)
