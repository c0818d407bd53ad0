use Rattle.std.proofs.Common.{◌≡◌, true, sym, ◌∙◌}
use Rattle.std.specs.declared.cmp.Ordering.TheVariants.{Equal}
use Rattle.std.specs.Ordering.{nat_cmp}
use Rattle.tree_model.specs.Key.{key_cmp, is_key}
use Rattle.json_tree.proofs.Fronts.{by_fronts, told_by_front}
use Rattle.json_tree.proofs.node.Child.compare.Goals as goal

pub returns-in_default : goal.returns-in_default
returns-in_default c =
    let answer : c.compare.result ≡ key_cmp c.self.inside.held.value.0 c.sought.inside.text.now = by_fronts _ _ _ _ c.compare.result c.self.invariant c.sought.invariant.spells c.compare.ensures c.in_default.not-Equal in
    cc

pub returns-then-sought : goal.returns-then-sought
returns-then-sought c =
    let tie : Equal ≡ nat_cmp c.self.inside.front.0 c.sought.inside.front.0 = sym c.in-Equal.is ∙ c.compare.ensures in
    let lawful : is_key c.self.inside.held.value.0 ≡ true = cc in
    let answer : Equal ≡ key_cmp c.self.inside.held.value.0 c.sought.inside.text.now = told_by_front _ _ _ _ c.self.invariant c.sought.invariant.spells tie lawful (c.sought.invariant.told c.if-sought.true) in
    cc
