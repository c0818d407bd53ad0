use Rattle.std.proofs.Common.{◌≡◌, ◌∙◌, List, IfOk, ap, subst}
use Rattle.tree_model.specs.Tree.{Tree}
use Rattle.arena_snapshot.specs.View.{node_or_null}
use Rattle.listeners.specs.Table.{Listener}
use Rattle.rtdb_model.specs.State.{State}
use Rattle.rtdb_model.specs.Step.{news_of}
use Rattle.rtdb_core.specs.Working.Fates.{settled}
use Rattle.rtdb_core.proofs.Passing.{base_is}
use Rattle.rtdb_core.proofs.machine.Machine.tidings_of.Goals as goal

pub returns : goal.returns
returns c =
    let tree : node_or_null c.as_ref.result ≡ c.args.self.now.tree = base_is c.as_ref.result c.self.inside.tree c.as_ref.ensures.value ∙ ap (λ (state : State). state.tree) c.self.view_is in
    subst (λ (t : Tree). IfOk c.tidings_of.result (λ news. news ≡ news_of t (settled 0 c.args.decisions.now c.args.session.now.listeners))) tree
    (subst (λ (ls : List Listener). IfOk c.tidings_of.result (λ news. news ≡ news_of (node_or_null c.as_ref.result) (settled 0 c.args.decisions.now ls))) c.listeners.ensures c.tidings_of.ensures)
