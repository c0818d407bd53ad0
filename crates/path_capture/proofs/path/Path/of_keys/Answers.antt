use Rattle.std.proofs.Common.{◌≤◌, ap, subst, sym, ◌∙◌, length}
use Rattle.std.proofs.lemmas.List.{take_all}
use Rattle.std.specs.List.{list_all}
use Rattle.tree_model.specs.Key.{is_key}
use Rattle.tree_model.specs.Path.{Path}
use Rattle.tree_model.proofs.Lawful.{is_path_from}
use Rattle.path_capture.proofs.path.Path.of_keys.Goals as goal

pub invariant_of-result : goal.invariant_of-result
invariant_of-result c =
    let all_seen = subst (λ (p : Path). length p ≤ c.loop-key.key-index) c.deref-key-items.ensures.value c.loop-key-test.false in
    is_path_from c.args.keys.items (ap (list_all is_key) (sym (take_all c.loop-key.key-index c.args.keys.items all_seen)) ∙ c.loop-key.invariant) c.requires
