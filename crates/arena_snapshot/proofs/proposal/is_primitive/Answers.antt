use Rattle.std.proofs.Common.{[], sym, ap, ◌∙◌, subst}
use Rattle.tree_model.specs.Tree.{IsLawful}
use Rattle.tree_model.proofs.Lawful.{IsLawful-null}
use Rattle.tree_model.specs.PathMap.{get}
use Rattle.tree_model.proofs.Lookups.{get-null}
use Rattle.json_tree.specs.Leaf.{primitive_of}
use Rattle.json_tree.proofs.Children.{lone-root}
use Rattle.arena_snapshot.specs.View.{node_or_null}
use Rattle.arena_snapshot.proofs.proposal.is_primitive.Goals as goal

pub returns-in-Some-leaf-clause-primitive : goal.returns-in-Some-leaf-clause-primitive
returns-in-Some-leaf-clause-primitive c =
    let v = primitive_of c.in-Some-leaf.field-0.now in
    (v, ap node_or_null c.in-Some.is ∙ sym (lone-root c.in-Some.node.now v c.law.ensures.lawful.tree (sym c.in-Some-leaf.ensures)))

pub returns-in-None-leaf-clause-parent : goal.returns-in-None-leaf-clause-parent
returns-in-None-leaf-clause-parent c = ap (λ b. get (node_or_null b) []) c.in-Some.is ∙ sym c.in-None-leaf.ensures

pub returns-in-None-clause-parent : goal.returns-in-None-clause-parent
returns-in-None-clause-parent c = ap (λ b. get (node_or_null b) []) c.in-None.is ∙ get-null []

pub returns-in-None-clause-lawful : goal.returns-in-None-clause-lawful
returns-in-None-clause-lawful c = subst (λ b. IsLawful (node_or_null b)) (sym c.in-None.is) IsLawful-null
