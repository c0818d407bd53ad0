use Rattle.std.proofs.Common.{◌∙◌, Option, option_map, sym}
use Rattle.std.specs.Borrow.{Bor}
use Rattle.tree_model.specs.PathMap.{sub}
use Rattle.tree_model.specs.Tree.{non_null}
use Rattle.listeners.specs.Query.{Query}
use Rattle.listeners.specs.Selection.{selection}
use Rattle.rtdb_model.specs.Rejudged.{selected_at}
use Rattle.rtdb_core.proofs.selections.Selections.at.Goals as goal

abbrev asked : Option (Bor Query) → Option Query
asked q = option_map (λ (query : Bor Query). query.now) q

pub returns-in_default-clause-selected : goal.returns-in_default-clause-selected
unfolding selection
returns-in_default-clause-selected c =
    c.stored.ensures
    ∙ c.node_in.ensures
    ∙ (λ i. non_null (sub (c.self.view_is i) (c.keys.ensures.keys i)))
    ∙ (λ i. non_null (selected_at c.args.self.now c.args.path.now (asked (sym c.in_default.is i))))
