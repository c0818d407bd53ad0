use Rattle.std.proofs.Common.{◌≡◌, [], ap, sym, ◌∙◌, arith}
use Rattle.std.proofs.lemmas.Grind.{common_steps}
use Rattle.tree_model.specs.Children.{graft}
use Rattle.json_tree.proofs.Proposing.{empty_graft}
use Rattle.json_tree.proofs.draft.marks_below.Goals as goal

pub returns-then-is_empty : goal.returns-then-is_empty
returns-then-is_empty c =
    let none : c.args.marked.items ≡ [] = grind (arith, common_steps) in
    sym (ap graft none ∙ empty_graft)
