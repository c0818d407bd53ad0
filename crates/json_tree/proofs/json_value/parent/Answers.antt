use Rattle.std.proofs.Common.{◌≡◌, [], arith}
use Rattle.std.proofs.lemmas.Grind.{common_steps}
use Rattle.json_tree.proofs.Building.{none-graft, some-graft}
use Rattle.json_tree.proofs.json_value.parent.Goals as goal

pub returns-then-is_empty : goal.returns-then-is_empty
returns-then-is_empty c =
    let none : c.args.children.items ≡ [] = grind (arith, common_steps) in
    none-graft c.args.children.items none

pub returns : goal.returns
returns c = some-graft c.args.children.items c.in_ok-node.node c.in_ok-node.ensures.tree c.law.ensures.some
