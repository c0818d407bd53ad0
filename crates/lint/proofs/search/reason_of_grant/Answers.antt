use Rattle.std.proofs.Common.{sym, ap, ◌∙◌, is_some}
use Rattle.lint.specs.Literal.{is_true, is_false, is_stated, may_grant}
use Rattle.lint.specs.Working.{IsAbove, NoneAbove}
use Rattle.lint.proofs.Lists.{if_some_at, if_none_at}
use Rattle.lint.proofs.Nodes.{rule_given}
use Rattle.lint.proofs.Reasons.{passes_here}
use Rattle.lint.proofs.search.reason_of_grant.Goals as goal

pub returns-in_ok-text_of-in-Some : goal.returns-in_ok-text_of-in-Some
returns-in_ok-text_of-in-Some c = λ book climbed.
    let above = if_some_at (IsAbove may_grant book c.args.kind c.args.climb.node.now.at) (λ a. a.now) c.args.climb.granting c.in-Some.above c.in-Some.is climbed.some_above in (
      c.in-Some.above.now.at,
      c.in_ok-text_of-in-Some.ensures,
      record {
        reaches = c.requires;
        refused = passes_here is_false book c.args.kind c.args.climb.node.now climbed.there (sym c.states_false.ensures ∙ c.if-states_false.true);
        below = above.below;
        granting = above.passes;
      },
    )

pub returns-in-None : goal.returns-in-None
returns-in-None c = λ book climbed. record {
  reaches = c.requires;
  refused = passes_here is_false book c.args.kind c.args.climb.node.now climbed.there (sym c.states_false.ensures ∙ c.if-states_false.true);
  none = if_none_at (NoneAbove may_grant book c.args.kind c.args.climb.node.now.at) (λ a. a.now) c.args.climb.granting c.in-None.is climbed.none_above;
}

pub returns-in_ok-text_of-in-Some-Some : goal.returns-in_ok-text_of-in-Some-Some
returns-in_ok-text_of-in-Some-Some c = λ book climbed.
    let above = if_some_at (IsAbove (is_stated is_true) book c.args.kind c.args.climb.node.now.at) (λ a. a.now) c.args.climb.granted c.in-Some-Some.above c.in-Some-Some.is-0 climbed.true_above in (
      c.in-Some-Some.above.now.at,
      c.in_ok-text_of-in-Some-Some.ensures,
      record {
        reaches = c.requires;
        stated = ap is_some (rule_given book c.args.kind c.args.climb.node.now c.in-Some-Some.field-0-1.now climbed.there c.in-Some-Some.ensures.stated);
        below = above.below;
        granted = above.passes;
      },
    )
