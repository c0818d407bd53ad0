use Rattle.std.proofs.Common.{length, sym, ap, subst, ◌∙◌}
use Rattle.rules_reader.specs.Node.{Point}
use Rattle.lint.specs.Working.{AreSeen}
use Rattle.lint.proofs.Places.{all_seen}
use Rattle.lint.proofs.captures.all_rules.Goals as goal

pub returns-then-as_slice-count : goal.returns-then-as_slice-count
returns-then-as_slice-count c =
    all_seen c.args.rules.now c.in_ok-all.all.items
    (subst (λ (p : Point). AreSeen p.book c.in_ok-all.all.items) c.root.ensures.node c.in_ok-all.ensures)
    (ap length (sym c.as_slice.ensures.value) ∙ c.if-as_slice-count.true ∙ c.count.ensures)
