use Rattle.std.proofs.Common.{◌++◌, Option, map, sym, ap, ◌∙◌}
use Rattle.std.specs.Prelude.{filter}
use Rattle.tree_model.specs.Tree.{Tree}
use Rattle.tree_model.specs.Put.{location}
use Rattle.path_capture.specs.Write.{tree_or_null}
use Rattle.judge.specs.Failing.{is_touched}
use Rattle.request_explainer.specs.Asked.{to_validate}
use Rattle.request_explainer.specs.Working.{places_by, existing_from}
use Rattle.request_explainer.proofs.Existing.{keys-null}
use Rattle.request_explainer.proofs.Touching.{from_root}
use Rattle.request_explainer.proofs.places.places_to_validate.Goals as goal

pub returns-in_default : goal.returns-in_default
returns-in_default c =
    let ls = map location c.args.writes.now in
    ap places_by c.new-places.ensures.items ∙ sym (ap (filter (is_touched ls)) keys-null) ∙ ap (λ (o : Option Tree). to_validate (tree_or_null o) ls) (sym c.in_default.is)

pub returns : goal.returns
returns c =
    let ls = map location c.args.writes.now in
    c.in_ok-list_touched.ensures
    ∙ (λ i. places_by (c.new-places.ensures.items i) ++ filter (is_touched ls) (existing_from (c.in_ok-root.ensures i) c.in-Some.view))
    ∙ ap (filter (is_touched ls)) (from_root c.in-Some.view)
    ∙ ap (λ (o : Option Tree). to_validate (tree_or_null o) ls) (sym c.in-Some.is)
