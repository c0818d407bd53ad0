use Rattle.std.proofs.Common.{◌≢◌, ◌-◌, ◌^◌, arith}
use Rattle.std.proofs.lemmas.Bool.Decides.{nat_tests}
use Rattle.json_tree.proofs.Shares.{known_depth, known_count}
use Rattle.json_tree.proofs.share.sizes_after.Goals as goal

pub returns-clause-depth : goal.returns-clause-depth
returns-clause-depth c = known_depth _ _ _ c.max.result c.requires.children c.if-not-is_depth_known.ensures c.max.ensures

pub returns-clause-count : goal.returns-clause-count
returns-clause-count c =
    let exact : c.args.count_before ≢ 2 ^ 64 - 1 = grind (arith, nat_tests) in
    known_count c.requires.sizes.0 _ c.args.exchange _ _ c.saturating_add.result c.requires.children c.requires.sizes.1 c.requires.sizes.2 exact c.saturating_add.ensures
