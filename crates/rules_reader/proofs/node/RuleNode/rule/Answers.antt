use Rattle.std.proofs.Common.{[], Some, ◌∙◌, sym, ap, option_map}
use Rattle.tree_model.specs.PathMap.{get}
use Rattle.rules_reader.specs.Book.{stated_for}
use Rattle.rules_reader.specs.Node.{Point, books}
use Rattle.rules_reader.specs.Working.NodeFalls.{get-grown-root}
use Rattle.rules_reader.proofs.node.RuleNode.rule.Goals as goal

pub returns-clause-stated : goal.returns-clause-stated
returns-clause-stated c =
    ap (λ (p : Point). option_map (stated_for c.args.kind) (get p.book [])) (sym c.self.view_is)
    ∙ ap (option_map (stated_for c.args.kind)) (get-grown-root c.self.inside.rules (books c.self.inside.children.items))
    ∙ ap Some (sym c.rule.ensures)
