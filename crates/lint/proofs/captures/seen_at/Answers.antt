use Rattle.std.proofs.Common.{sym, ◌∙◌}
use Rattle.lint.proofs.Nodes.{stated_given}
use Rattle.lint.proofs.captures.seen_at.Goals as goal

pub returns-then-is_some : goal.returns-then-is_some
returns-then-is_some c = record {
  node = c.in-Some-climb_to.ensures.there;
  stated = stated_given c.args.root.now.book c.in-Some.kind c.in-Some-climb_to.climb.node.now (λ rule. rule.now) c.rule.result c.in-Some-climb_to.ensures.there c.rule.ensures.stated (sym c.is_some.ensures ∙ c.if-is_some.true);
}
