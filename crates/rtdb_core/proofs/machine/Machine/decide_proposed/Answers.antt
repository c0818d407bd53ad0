use Rattle.std.proofs.Common.{◌≡◌, ◌∙◌, ◌<◌, ◌^◌, length, sym, ap, subst}
use Rattle.tree_model.specs.Tree.{Tree}
use Rattle.tree_model.specs.Write.{proposed}
use Rattle.arena_snapshot.specs.View.{node_or_null}
use Rattle.rtdb_model.specs.State.{State}
use Rattle.rtdb_model.specs.Step.{tree_with}
use Rattle.rtdb_core.specs.Working.Fates.{sparse, fates_of, all_sessions, with_tree}
use Rattle.rtdb_core.specs.Working.Heard.{AllHeardIn}
use Rattle.rtdb_core.proofs.Fatings.{state_made}
use Rattle.rtdb_core.proofs.Passing.{base_is}
use Rattle.rtdb_core.proofs.Sessions.{if_both}
use Rattle.rtdb_core.proofs.machine.Machine.decide_proposed.Goals as goal

pub decide_all-requires-clause-passage : goal.decide_all-requires-clause-passage
decide_all-requires-clause-passage c =
    let base : node_or_null c.as_ref.result ≡ c.args.self.now.tree = base_is c.as_ref.result c.self.inside.tree c.as_ref.ensures.value ∙ ap (λ (state : State). state.tree) c.self.view_is in
    record {
      moment = c.requires.moment;
      apart = c.requires.apart;
      fixed = c.requires.fixed;
      coming = c.requires.proposes ∙ ap (λ (t : Tree). proposed t c.args.writes.now c.args.now) (sym base);
    }

pub decide_all-requires-clause-heard : goal.decide_all-requires-clause-heard
decide_all-requires-clause-heard c was =
    let s = c.args.self.now in
    let base : node_or_null c.as_ref.result ≡ s.tree = base_is c.as_ref.result c.self.inside.tree c.as_ref.ensures.value ∙ ap (λ (state : State). state.tree) c.self.view_is in
    subst (λ x. x) (sym (λ i. AllHeardIn (ap (λ (state : State). state.rules) c.self.view_is i) (base i) s.sessions)) c.requires.heard

pub returns : goal.returns
returns c =
    let s = c.args.self.now in
    let ws = c.args.writes.now in
    let base : node_or_null c.as_ref.result ≡ s.tree = base_is c.as_ref.result c.self.inside.tree c.as_ref.ensures.value ∙ ap (λ (state : State). state.tree) c.self.view_is in
    let fates : fates_of (node_or_null c.as_ref.result) c.self.inside.rules (proposed (node_or_null c.as_ref.result) ws c.args.now) c.args.now (all_sessions s.sessions) ≡ fates_of s.tree s.rules (tree_with s c.args.now ws) c.args.now (all_sessions s.sessions) =
    λ i. fates_of (base i) (ap (λ (state : State). state.rules) c.self.view_is i) (proposed (base i) ws c.args.now) c.args.now (all_sessions s.sessions) in
    if_both c.decide_all.result c.decide_all.ensures.made c.decide_all.ensures.fits (λ decisions made fits.
    state_made s.tree (with_tree s c.args.now ws) c.args.now decisions.made.items (made ∙ ap (sparse 0) fates) (subst (λ fs. length fs < 2 ^ 64) fates fits))
