use Rattle.std.proofs.Common.{rules, subst}
use Rattle.std.specs.List.Sorted.{IsBinarySearchResult}
use Rattle.std.proofs.lemmas.Fn.{always_returns_same}
use Rattle.tree_model.specs.Key.{Key, key_cmp}
use Rattle.tree_model.specs.Tree.{Tree}
use Rattle.json_tree.proofs.node.searched.Goals as goal

pub returns-clause-position : goal.returns-clause-position
returns-clause-position c =
    let name = c.args.sought.now in
    let computes = always_returns_same _ _ _ (λ a r f' called. search rules) in
    subst (λ cs. IsBinarySearchResult (λ (child : Key × Tree). key_cmp child.0 name) cs c.binary_search_by.result) c.deref.ensures.value (c.binary_search_by.ensures.position (λ (child : Key × Tree). key_cmp child.0 name) computes)
