use Rattle.std.proofs.Common.{◌≤◌, ◌∙◌, ap, sym, subst}
use Rattle.tree_model.specs.Tree.{non_null, count}
use Rattle.tree_model.proofs.Existence.{non_null-null, non_null-some}
use Rattle.path_capture.specs.Write.{tree_or_null}
use Rattle.rtdb_model.specs.declared.limits.TheConstants.{MAX_LOCATIONS}
use Rattle.rtdb_model.specs.State.{State}
use Rattle.rtdb_core.proofs.machine.Machine.tree.Goals as goal

pub returns-in-Some-clause-tree : goal.returns-in-Some-clause-tree
returns-in-Some-clause-tree c =
    sym (non_null-some c.in-Some.node c.law.ensures.some)
    ∙ ap (λ tree. non_null (tree_or_null tree)) (sym c.in-Some.is)
    ∙ ap (λ (state : State). non_null state.tree) c.self.view_is

pub returns-in-None-clause-tree : goal.returns-in-None-clause-tree
returns-in-None-clause-tree c =
    sym non_null-null
    ∙ ap (λ tree. non_null (tree_or_null tree)) (sym c.in-None.is)
    ∙ ap (λ (state : State). non_null state.tree) c.self.view_is

pub returns-in-Some-clause-room : goal.returns-in-Some-clause-room
returns-in-Some-clause-room c = subst (λ (state : State). count state.tree ≤ MAX_LOCATIONS) c.self.view_is c.self.invariant

pub returns-in-None-clause-room : goal.returns-in-None-clause-room
returns-in-None-clause-room c = subst (λ (state : State). count state.tree ≤ MAX_LOCATIONS) c.self.view_is c.self.invariant
