use Rattle.std.proofs.Common.{◌≡◌, ◌≢◌, ◌∙◌, Option, option_map, sym, subst}
use Rattle.tree_model.specs.PathMap.{sub}
use Rattle.std.specs.Borrow.{Bor}
use Rattle.listeners.specs.Query.{Query}
use Rattle.rtdb_model.specs.Rejudged.{moves}
use Rattle.rtdb_core.proofs.Passing.{stays, moved_whole}
use Rattle.rtdb_core.proofs.moved.Moved.has.Goals as goal

abbrev asked : Option (Bor Query) → Option Query
asked q = option_map (λ (query : Bor Query). query.now) q

pub returns-then-not-has_changed-clause-moved : goal.returns-then-not-has_changed-clause-moved
returns-then-not-has_changed-clause-moved c =
    let trees = c.args.self.now in
    let same = subst (λ p. sub trees.1 p ≡ sub trees.0 p) c.keys.ensures.keys c.if-not-has_changed.ensures.unchanged in
    sym (stays trees.0 trees.1 c.args.path.now (asked c.args.query) same)

pub returns-in_default-clause-moved : goal.returns-in_default-clause-moved
returns-in_default-clause-moved c =
    let trees = c.args.self.now in
    let differs = subst (λ p. sub trees.1 p ≢ sub trees.0 p) c.keys.ensures.keys c.if-not-has_changed.ensures.changed in
    sym (moved_whole trees.0 trees.1 c.args.path.now differs)
    ∙ (λ i. moves trees.0 trees.1 c.args.path.now (asked (sym c.in_default.is i)))
