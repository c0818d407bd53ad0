use Rattle.std.proofs.Common.{◌≡◌, ◌∙◌, ◌<◌, ◌^◌, length, sym, ap, subst}
use Rattle.tree_model.specs.Tree.{Tree}
use Rattle.rules_reader.specs.Book.{Book}
use Rattle.rtdb_core.specs.Working.Heard.{AllHeardIn}
use Rattle.arena_snapshot.specs.View.{node_or_null}
use Rattle.rtdb_model.specs.State.{State}
use Rattle.rtdb_core.specs.Working.Fates.{sparse, fates_of, all_sessions, with_rules}
use Rattle.rtdb_core.specs.Working.Passages.{tree_before, tree_after}
use Rattle.rtdb_core.proofs.Fatings.{state_made}
use Rattle.rtdb_core.proofs.Passing.{base_is}
use Rattle.rtdb_core.proofs.Sessions.{if_both}
use Rattle.rtdb_core.proofs.machine.Machine.decide_by.Goals as goal

pub returns : goal.returns
returns c =
    let s = c.args.self.now in
    let p = c.staying-passage.result in
    let base : node_or_null c.as_ref.result ≡ s.tree = base_is c.as_ref.result c.self.inside.tree c.as_ref.ensures.value ∙ ap (λ (state : State). state.tree) c.self.view_is in
    let before : tree_before p ≡ s.tree = c.staying-passage.ensures.before ∙ base in
    let after : tree_after p ≡ s.tree = c.staying-passage.ensures.after ∙ base in
    let fates : fates_of (tree_before p) p.rules.now (tree_after p) p.moment (all_sessions s.sessions) ≡ fates_of s.tree c.args.rules.now s.tree c.args.now (all_sessions s.sessions) =
    λ i. fates_of (before i) (c.staying-passage.ensures.rules i) (after i) (c.staying-passage.ensures.moment i) (all_sessions s.sessions) in
    if_both c.decide_all.result c.decide_all.ensures.made c.decide_all.ensures.fits (λ decisions made fits.
    state_made s.tree (with_rules s c.args.rules.now) c.args.now decisions.made.items (made ∙ ap (sparse 0) fates) (subst (λ fs. length fs < 2 ^ 64) fates fits))

pub decide_all-requires-clause-heard : goal.decide_all-requires-clause-heard
decide_all-requires-clause-heard c was =
    let s = c.args.self.now in
    let p = c.staying-passage.result in
    let base : node_or_null c.as_ref.result ≡ s.tree = base_is c.as_ref.result c.self.inside.tree c.as_ref.ensures.value ∙ ap (λ (state : State). state.tree) c.self.view_is in
    subst (λ (rules : Book). AllHeardIn rules (tree_before p) s.sessions) (sym c.staying-passage.ensures.rules)
    (subst (λ (tree : Tree). AllHeardIn c.args.rules.now tree s.sessions) (sym (c.staying-passage.ensures.before ∙ base)) (c.requires.heard (sym c.staying-passage.ensures.heard ∙ was)))
