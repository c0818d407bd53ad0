use Rattle.std.proofs.Common.{◌≤◌, ◌∙◌, sym, ap, subst}
use Rattle.std.proofs.lemmas.List.Sorted.{All-permutation}
use Rattle.tree_model.specs.Tree.{Tree, count}
use Rattle.tree_model.specs.Put.{written}
use Rattle.tree_model.specs.Draft.{IsFixed}
use Rattle.rtdb_model.specs.declared.limits.TheConstants.{MAX_LOCATIONS}
use Rattle.rtdb_model.specs.State.{State}
use Rattle.rtdb_core.specs.Working.Fates.{with_settled}
use Rattle.rtdb_core.proofs.AnyOrder.{overlap_same, tree_same, same_with_tree}
use Rattle.rtdb_core.proofs.machine.Machine.make_update.Goals as goal

pub put_all-requires-clause-apart : goal.put_all-requires-clause-apart
put_all-requires-clause-apart c = sym (overlap_same c.args.writes c.into_vec.result.items c.into_vec.ensures.permutation) ∙ c.requires.apart

pub put_all-requires-clause-fixed : goal.put_all-requires-clause-fixed
put_all-requires-clause-fixed c = All-permutation (λ w. IsFixed (written w)) c.args.writes c.into_vec.result.items c.into_vec.ensures.permutation c.requires.fixed

pub put_all-requires-clause-room : goal.put_all-requires-clause-room
put_all-requires-clause-room c =
    let apart = sym (overlap_same c.args.writes c.into_vec.result.items c.into_vec.ensures.permutation) ∙ c.requires.apart in
    subst (λ (t : Tree). count t ≤ MAX_LOCATIONS) (tree_same c.args.self.now 0 c.args.writes c.into_vec.result.items c.into_vec.ensures.permutation apart) c.requires.room

pub returns-clause-ok : goal.returns-clause-ok
returns-clause-ok c =
    let apart = sym (overlap_same c.args.writes c.into_vec.result.items c.into_vec.ensures.permutation) ∙ c.requires.apart in
    c.settle_all.ensures
    ∙ ap (λ (s : State). with_settled s c.args.decisions.now) c.in_ok-put_all.ensures.ok
    ∙ sym (same_with_tree c.args.self.now 0 c.args.writes c.into_vec.result.items c.args.decisions.now c.into_vec.ensures.permutation apart)
