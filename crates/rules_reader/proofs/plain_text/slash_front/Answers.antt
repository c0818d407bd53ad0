use Rattle.std.proofs.Common.{◌-◌, length, take, drop, refl, arith}
use Rattle.rules_reader.proofs.Fronts.{comment_after}
use Rattle.rules_reader.proofs.plain_text.slash_front.Goals as goal

pub returns-in-Some-comment_end-clause-after : goal.returns-in-Some-comment_end-clause-after
returns-in-Some-comment_end-clause-after c =
    comment_after c.args.behind.now (take (length c.args.behind.now - 1) (drop 1 c.args.behind.now)) c.in-Some-comment_end.place refl (omega arith) (omega arith) c.in-Some-comment_end.ensures.first
