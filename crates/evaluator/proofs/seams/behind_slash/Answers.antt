use Rattle.std.proofs.lemmas.Str.{IsCharBoundary-after_ascii}
use Rattle.evaluator.proofs.Leading.{segments-cut_begin, slash_first}
use Rattle.evaluator.proofs.seams.behind_slash.Goals as goal

pub split_at-requires : goal.split_at-requires
split_at-requires c =
    let first = slash_first c.args.text.now (c.begins_with_slash.ensures c.if-not-begins_with_slash.false) in
    IsCharBoundary-after_ascii c.args.text.now 0 c.utf8.text first.0 first.1

pub returns : goal.returns
returns c = segments-cut_begin c.args.text.now c.split_at.result.1.now (c.begins_with_slash.ensures c.if-not-begins_with_slash.false) c.split_at.ensures.back
