use Rattle.std.proofs.Common.{rules}
use Rattle.std.specs.Ordering.{is_lt}
use Rattle.std.proofs.lemmas.List.Sorted.{ranks_by, answers_always}
use Rattle.listeners.specs.Working.Items.{item_cmp, rank_seen}
use Rattle.listeners.proofs.Edges.{stands_between}
use Rattle.listeners.proofs.Orders.{rank_total}
use Rattle.listeners.proofs.edge.part_at.Goals as goal

pub returns : goal.returns
returns c =
    let parted = c.select_nth_unstable_by-item in
    stands_between c.args.items.now parted.result.0.now parted.result.2.now c.args.i parted.result.1.now parted.ensures.permutation parted.ensures.front_len
    (parted.ensures.partitioned (λ a b. is_lt (item_cmp a b)) (ranks_by rank_total rank_seen) (answers_always _ _ _ (λ f a r g called. search rules)))
