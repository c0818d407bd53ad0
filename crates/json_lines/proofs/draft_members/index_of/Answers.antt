use Rattle.std.proofs.Common.{rules}
use Rattle.std.proofs.lemmas.Fn.{always_returns_same}
use Rattle.std.specs.List.Sorted.{IsBinarySearchResult}
use Rattle.tree_model.specs.Key.{Key, key_cmp}
use Rattle.tree_model.specs.Draft.{Draft}
use Rattle.std.proofs.Common.{subst}
use Rattle.json_lines.proofs.draft_members.index_of.Goals as goal

pub returns-clause-position : goal.returns-clause-position
returns-clause-position c =
    let name = c.args.name.now in
    let computes = always_returns_same _ _ _ (λ a r f' called. search rules) in
    subst (λ es. IsBinarySearchResult (λ (entry : Key × Draft). key_cmp entry.0 name) es c.binary_search_by.result) c.deref.ensures.value (c.binary_search_by.ensures.position (λ (entry : Key × Draft). key_cmp entry.0 name) computes)
