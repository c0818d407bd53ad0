use Rattle.std.proofs.Common.{◌∙◌, sym, ap, subst}
use Rattle.tree_model.specs.Tree.{IsLawful}
use Rattle.tree_model.specs.Draft.{tree_at}
use Rattle.json_tree.specs.Working.Marks.{marks_seen}
use Rattle.json_tree.proofs.Marks.{tree-drafted, some_seen}
use Rattle.json_tree.proofs.draft.DraftRef.law.Goals as goal

pub returns-clause-some : goal.returns-clause-some
returns-clause-some c = λ e. some_seen c.self.inside.node.now (marks_seen c.self.inside.marks) c.args.self.now c.self.view_is c.law.ensures.some e

pub returns-clause-lawful : goal.returns-clause-lawful
returns-clause-lawful c =
    let same = sym (tree-drafted c.self.inside.node.now (marks_seen c.self.inside.marks) c.self.invariant) ∙ ap (tree_at 0) c.self.view_is in
    record { tree = subst IsLawful same c.law.ensures.lawful }
