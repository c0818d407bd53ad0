use Rattle.std.proofs.Common.{ap, ◌∙◌}
use Rattle.std.specs.List.{list_all}
use Rattle.tree_model.specs.Path.{is_prefix}
use Rattle.tree_model.specs.Put.{location}
use Rattle.rtdb_model.specs.Step.{writes_of}
use Rattle.rtdb_core.proofs.Acting.{all_below}
use Rattle.rtdb_core.proofs.action.Action.is_below.Goals as goal

pub returns : goal.returns
returns c =
    c.are_below.ensures
    ∙ ap (list_all (λ write. is_prefix c.args.path.now (location write))) c.in_order.ensures.writes
    ∙ all_below c.args.path.now (writes_of c.args.self.now)
