use Rattle.std.proofs.Common.{rules}
use Rattle.std.specs.Ordering.{is_lt}
use Rattle.std.proofs.lemmas.List.Sorted.{ranks_by, answers_always}
use Rattle.tree_model.specs.Key.{Key, key_cmp}
use Rattle.tree_model.specs.Draft.{Draft}
use Rattle.tree_model.proofs.Orders.{keys_total}
use Rattle.json_tree.proofs.draft_value.sort.Goals as goal

pub returns-clause-ascending : goal.returns-clause-ascending
returns-clause-ascending c =
    c.sort_unstable_by.ensures.sorted (λ a b. is_lt (key_cmp a.0 b.0)) (ranks_by keys_total (λ (child : Key × Draft). child.0)) (answers_always _ _ _ (λ f a r g called. search rules))
