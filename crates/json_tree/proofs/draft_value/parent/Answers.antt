use Rattle.std.proofs.Common.{◌≡◌, [], arith}
use Rattle.std.proofs.lemmas.Grind.{common_steps}
use Rattle.tree_model.specs.Children.{graft}
use Rattle.json_tree.proofs.Drafting.{none-draft, some-draft}
use Rattle.json_tree.proofs.draft_value.parent.Goals as goal

pub returns-then-is_empty : goal.returns-then-is_empty
returns-then-is_empty c =
    let none : c.args.children.items ≡ [] = grind (arith, common_steps) in
    none-draft c.args.children.items none

pub returns : goal.returns
returns c = some-draft c.in_ok-draft.draft (graft c.args.children.items) c.in_ok-draft.ensures c.law.ensures.some
