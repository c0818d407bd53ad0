use Rattle.std.proofs.Common.{rules}
use Rattle.std.proofs.lemmas.Fn.{always_returns_same}
use Rattle.arena_snapshot.specs.Working.Patches.{is_behind}
use Rattle.arena_snapshot.proofs.patches.count_behind.Goals as goal

pub returns-clause-point : goal.returns-clause-point
returns-clause-point c =
    let computes = always_returns_same _ _ _ (λ a r f' called. search rules) in
    c.partition_point.ensures.partitioned (is_behind c.args.i) computes c.requires
