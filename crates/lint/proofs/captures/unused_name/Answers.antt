use Rattle.std.proofs.Common.{sym, ◌∙◌}
use Rattle.lint.proofs.Unused.{unused}
use Rattle.lint.proofs.captures.unused_name.Goals as goal

pub returns-then-some_is_no_literal : goal.returns-then-some_is_no_literal
returns-then-some_is_no_literal c = λ book every.
    unused book c.args.node.now.at c.in_ok-name.name.now c.args.all.now.items every c.in_ok-name.ensures
    (sym c.some_uses.ensures ∙ c.if-not-some_uses.true) (sym c.some_is_no_literal.ensures ∙ c.if-some_is_no_literal.true)
