use Rattle.std.proofs.Common.{◌++◌, ◌∷◌, [], ap, ◌∙◌}
use Rattle.rtdb_model.specs.State.{Action, actions_of}
use Rattle.rtdb_model.specs.Step.{with_actions}
use Rattle.rtdb_core.proofs.Sessions.{on_ok}
use Rattle.rtdb_core.proofs.machine.Machine.keep_write.Goals as goal

pub returns-clause-ok : goal.returns-clause-ok
returns-clause-ok c =
    let old = c.args.self.now in
    let n = c.args.session in
    on_ok c.keep.result c.keep.ensures.ok (λ is. is ∙ ap (λ (a : Action). with_actions old n (actions_of old n ++ a ∷ [])) c.in_ok-action.ensures)
