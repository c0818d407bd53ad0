use Rattle.std.proofs.Common.{sym, ap, subst, drop, ◌∙◌, ◌≡◌, true}
use Rattle.rtdb_model.specs.State.{State, is_open, actions_of}
use Rattle.rtdb_model.specs.Step.{with_actions}
use Rattle.rtdb_core.specs.Working.Fates.{with_tree, with_settled}
use Rattle.rtdb_core.proofs.Running.{open_settled, actions_settled}
use Rattle.rtdb_core.proofs.machine.Machine.run_made.Goals as goal

pub drop_first-requires : goal.drop_first-requires
drop_first-requires c =
    ap (λ (s : State). is_open s c.args.session) c.in_ok-make_update.ensures.ok
    ∙ open_settled (with_tree c.args.self.now 0 c.args.writes) c.args.decisions.now c.args.session
    ∙ c.requires.opened

pub returns-clause-ok : goal.returns-clause-ok
returns-clause-ok c =
    c.drop_first.ensures
    ∙ ap (λ (s : State). with_actions s c.args.session (drop 1 (actions_of s c.args.session))) c.in_ok-make_update.ensures.ok
    ∙ ap (λ all. with_actions (with_settled (with_tree c.args.self.now 0 c.args.writes) c.args.decisions.now) c.args.session (drop 1 all)) (actions_settled (with_tree c.args.self.now 0 c.args.writes) c.args.decisions.now c.args.session)
