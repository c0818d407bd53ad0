use Rattle.std.proofs.Common.{◌≡◌, ◌<◌, List, length, ap, sym, subst, ◌∙◌, arith}
use Rattle.std.specs.declared.cmp.Ordering.TheVariants.{Greater}
use Rattle.tree_model.specs.Key.{Key, key_cmp}
use Rattle.tree_model.specs.Tree.{Tree}
use Rattle.json_tree.specs.Working.Search.{AreBefore}
use Rattle.json_tree.proofs.Searching.{behind_from}
use Rattle.json_tree.proofs.node.index_of.Goals as goal

pub returns-in-Greater-clause-position : goal.returns-in-Greater-clause-position
returns-in-Greater-clause-position c = λ rises.
    let name = c.args.name.now in
    let items = c.args.children.now.items in
    let n = c.count_in_front-index.result in
    let before : AreBefore name n items = subst (λ (cs : List (Key × Tree)). AreBefore name n cs) c.deref.ensures.value (subst (λ (text : Key). AreBefore text n c.deref.result.now) c.of-sought.ensures c.count_in_front-index.ensures.before) in
    let within : n < length items = omega (arith, c.count_in_front-index.ensures.within, c.deref.ensures.len, c.len.ensures, ap length c.deref.ensures.value) in
    let greater : key_cmp c.index.result.now.0 name ≡ Greater = ap (λ (text : Key). key_cmp c.index.result.now.0 text) (sym c.of-sought.ensures) ∙ sym c.compare.ensures ∙ c.in-Greater.is in
    (before.each rises, behind_from name n items c.index.result.now within c.index.ensures greater rises)
