use Rattle.std.proofs.Common.{sym, ap, ◌∙◌, Some, Ok, Err}
use Rattle.tree_model.specs.Key.{Key}
use Rattle.tree_model.specs.Tree.{Tree}
use Rattle.tree_model.proofs.Grafts.{child-graft}
use Rattle.json_tree.proofs.Places.{searched, ranked}
use Rattle.json_tree.proofs.node.place_of.Goals as goal

pub returns-in-Ok-clause-child : goal.returns-in-Ok-clause-child
returns-in-Ok-clause-child c =
    let items = c.args.children.now.items in
    let name = c.args.name.now in
    let found = searched name items (Ok c.in-Ok.index) c.requires.ascending c.in-Ok.ensures.bound c.in-Ok.ensures.position c.index.result.now in
    ap Some c.node.ensures ∙ ap (λ (child : Key × Tree). Some child.1) c.index.ensures ∙ sym found ∙ sym (child-graft items name c.requires)

pub returns-in-Ok-clause-before : goal.returns-in-Ok-clause-before
returns-in-Ok-clause-before c = sym (ranked c.args.name.now c.args.children.now.items (Ok c.in-Ok.index) c.requires.ascending c.in-Ok.ensures.bound c.in-Ok.ensures.position c.index.result.now)

pub returns-in-Err-clause-child : goal.returns-in-Err-clause-child
returns-in-Err-clause-child c =
    let items = c.args.children.now.items in
    let name = c.args.name.now in
    let none = searched name items (Err c.in-Err.index) c.requires.ascending c.in-Err.ensures.bound c.in-Err.ensures.position in
    sym none ∙ sym (child-graft items name c.requires)

pub returns-in-Err-clause-before : goal.returns-in-Err-clause-before
returns-in-Err-clause-before c = sym (ranked c.args.name.now c.args.children.now.items (Err c.in-Err.index) c.requires.ascending c.in-Err.ensures.bound c.in-Err.ensures.position)
