use Rattle.std.proofs.Common.{List, not, filter, rules, ap, ◌∙◌}
use Rattle.std.proofs.lemmas.Fn.{filter_same}
use Rattle.rtdb_model.specs.State.{Action, Session}
use Rattle.rtdb_model.specs.Step.{is_below}
use Rattle.rtdb_core.proofs.session.Session.cancel_below.Goals as goal

pub returns : goal.returns
returns c =
    ap (λ (all : List Action). record { identity = c.self.inside.identity; listeners = c.self.inside.listeners; actions = all; leaving = c.self.inside.is_leaving }) (filter_same _ _ _ (λ x b f' k. search rules) _ _ c.retain.ensures.filtered)
    ∙ ap (λ (one : Session). record one { actions = filter (λ action. not (is_below c.args.path.now action)) one.actions }) c.self.view_is
