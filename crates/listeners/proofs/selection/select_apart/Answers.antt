use Rattle.std.proofs.Common.{◌≡◌, Option, Some, None, IfOk, option_map, sym, ap, ◌∙◌, refl, subst}
use Rattle.std.specs.Borrow.{Bor}
use Rattle.tree_model.specs.Tree.{null, non_null}
use Rattle.tree_model.proofs.Existence.{non_null-null, non_null-some}
use Rattle.path_capture.specs.Write.{tree_or_null}
use Rattle.listeners.specs.Query.{Query}
use Rattle.listeners.specs.Selection.{selection}
use Rattle.listeners.proofs.Keeping.{selected-null}
use Rattle.listeners.proofs.selection.select_apart.Goals as goal

of_null : (q : Option Query) → selection null q ≡ null
unfolding selection
of_null None = refl
of_null (Some query) = selected-null query

abbrev asked : Option (Bor Query) → Option Query
asked q = option_map (λ query. query.now) q

pub returns-in_default : goal.returns-in_default
returns-in_default c =
    sym (ap (λ v. non_null (selection (tree_or_null v) (asked c.args.query))) c.in_default.is ∙ ap non_null (of_null (asked c.args.query)) ∙ non_null-null)

pub returns-in-Some-query : goal.returns-in-Some-query
unfolding selection
returns-in-Some-query c =
    subst (λ t. IfOk c.selected.result (λ found. found ≡ non_null t)) (sym (λ i. selection (tree_or_null (c.in-Some.is i)) (asked (c.in-Some-query.is i)))) c.selected.ensures

pub returns-in-None : goal.returns-in-None
unfolding selection
returns-in-None c =
    sym (ap non_null (λ i. selection (tree_or_null (c.in-Some.is i)) (asked (c.in-None.is i))) ∙ non_null-some c.in-Some.view c.law.ensures.some)
