use Rattle.std.proofs.Common.{false, refl}
use Rattle.tree_model.specs.Primitive.{Primitive}
use Rattle.tree_model.proofs.Lawful.{IsLawful-lone}
use Rattle.json_tree.specs.Leaf.{primitive_of}
use Rattle.json_tree.specs.declared.leaf.Leaf.TheVariants.{Truth}
use Rattle.json_tree.proofs.puts.taken.Goals as goal

pub invariant_of-nothing : goal.invariant_of-nothing
invariant_of-nothing c =
    let v : Primitive = primitive_of (Truth false) in
    record { parts = tt; lawful = IsLawful-lone v refl; sized = tt }
