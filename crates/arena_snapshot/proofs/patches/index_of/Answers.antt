use Rattle.std.proofs.Common.{rules}
use Rattle.std.proofs.lemmas.Fn.{always_returns_same}
use Rattle.tree_model.specs.Key.{key_cmp}
use Rattle.arena_snapshot.specs.declared.view.Patch.{Patch}
use Rattle.arena_snapshot.proofs.patches.index_of.Goals as goal

pub returns-clause-position : goal.returns-clause-position
returns-clause-position c =
    let name = c.args.name.now in
    let computes = always_returns_same _ _ _ (λ a r f' called. search rules) in
    c.binary_search_by.ensures.position (λ (patch : Patch). key_cmp patch.key.now name) computes
