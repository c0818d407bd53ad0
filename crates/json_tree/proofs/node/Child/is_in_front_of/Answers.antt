use Rattle.std.proofs.Common.{◌≡◌}
use Rattle.std.specs.declared.cmp.Ordering.TheVariants.{Less}
use Rattle.tree_model.specs.Key.{key_cmp}
use Rattle.json_tree.proofs.Fronts.{front_less}
use Rattle.json_tree.proofs.node.Child.is_in_front_of.Goals as goal

pub returns : goal.returns
returns c = λ yes.
    let answer : key_cmp c.self.inside.held.value.0 c.sought.inside.text.now ≡ Less = front_less _ _ _ _ c.self.invariant c.sought.invariant.spells (c.is_before.ensures yes) in
    cc
