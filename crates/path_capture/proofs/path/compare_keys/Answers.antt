use Rattle.std.proofs.Common.{◌≡◌, ◌∙◌, refl, rules, tests}
use Rattle.std.proofs.lemmas.List.{map-id}
use Rattle.std.proofs.lemmas.Iterator.{YieldsList-from_slice, YieldsList-from_map_by}
use Rattle.std.proofs.lemmas.Iterator.Search.{cmp_from_yields_List}
use Rattle.tree_model.specs.Key.{key_cmp}
use Rattle.tree_model.specs.Path.{path_cmp}
use Rattle.path_capture.proofs.path.compare_keys.Goals as goal

pub returns : goal.returns
returns c =
    cmp_from_yields_List (λ x y. y ≡ x) _ key_cmp _ c.cmp.ensures.ran
    (YieldsList-from_map_by _ (λ r. r.now) (λ k. k) (YieldsList-from_slice c.args.keys.now cc) c.map.ensures.closure (λ x r q k. search (rules, tests)))
    (λ it e. YieldsList-from_map_by _ (λ r. r.now) (λ k. k) (YieldsList-from_slice c.args.others.now cc) (cc) (λ x r q k. search (rules, tests)))
    (λ x y. refl)
    ∙ (λ i. path_cmp (map-id c.args.keys.now i) (map-id c.args.others.now i))
