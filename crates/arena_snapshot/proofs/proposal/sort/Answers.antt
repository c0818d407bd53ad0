use Rattle.std.proofs.Common.{rules}
use Rattle.std.specs.Borrow.{Bor}
use Rattle.std.specs.Ordering.{is_lt}
use Rattle.std.proofs.lemmas.List.Sorted.{ranks_by, answers_always}
use Rattle.tree_model.specs.Path.{path_cmp}
use Rattle.tree_model.specs.Put.{location}
use Rattle.tree_model.specs.Write.{Write}
use Rattle.tree_model.proofs.Orders.{paths_total}
use Rattle.arena_snapshot.proofs.proposal.sort.Goals as goal

pub returns-clause-ascending : goal.returns-clause-ascending
returns-clause-ascending c =
    c.sort_unstable_by.ensures.sorted (λ a b. is_lt (path_cmp (location a.now) (location b.now))) (ranks_by paths_total (λ (write : Bor Write). location write.now)) (answers_always _ _ _ (λ f a r g called. search rules))
