use Rattle.std.proofs.Common.{rules}
use Rattle.std.specs.Borrow.{Bor}
use Rattle.std.specs.Ordering.{is_lt}
use Rattle.std.proofs.lemmas.List.Sorted.{ranks_by, answers_always, sorted_far}
use Rattle.tree_model.specs.Path.{Path, path_cmp}
use Rattle.tree_model.proofs.Orders.{paths_total}
use Rattle.judge.proofs.Sorting.{paths_ascend}
use Rattle.judge.proofs.locations.sort.Goals as goal

pub returns-clause-ascending : goal.returns-clause-ascending
returns-clause-ascending c =
    let weak = ranks_by paths_total (λ (p : Bor Path). p.now) in
    paths_ascend c.sort_unstable_by.new.self.items (sorted_far (λ (a b : Bor Path). is_lt (path_cmp a.now b.now)) weak c.sort_unstable_by.new.self.items
    (c.sort_unstable_by.ensures.sorted (λ (a b : Bor Path). is_lt (path_cmp a.now b.now)) weak (answers_always _ _ _ (λ f a r g called. search rules))))
