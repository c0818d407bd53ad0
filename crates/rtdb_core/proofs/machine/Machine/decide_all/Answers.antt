use Rattle.std.proofs.Common.{◌≡◌, ◌∙◌, ◌<◌, ◌^◌, List, ℕ, map, length, IfOk, sym, ap, subst}
use Rattle.rtdb_core.specs.Working.Heard.{AllHeardIn}
use Rattle.rtdb_model.specs.State.{State, Session}
use Rattle.rtdb_core.specs.Working.Fates.{sparse, fates_of, all_sessions}
use Rattle.rtdb_core.specs.Working.Passages.{tree_before, tree_after}
use Rattle.rtdb_core.proofs.Sessions.{entries_are}
use Rattle.rtdb_core.proofs.machine.Machine.decide_all.Goals as goal

pub returns-clause-made : goal.returns-clause-made
returns-clause-made c =
    let p = c.args.passage.now in
    let all : map (λ (e : ℕ × Session). e.1) c.self.inside.sessions.entries ≡ all_sessions c.args.self.now.sessions =
    ap (map (λ (e : ℕ × Session). e.1)) (sym (entries_are c.self.inside.sessions.entries c.decide_all.ensures.ordered)) ∙ ap (λ (state : State). all_sessions state.sessions) c.self.view_is in
    subst (λ (ss : List Session). IfOk c.decide_all.result (λ decisions. decisions.made.items ≡ sparse 0 (fates_of (tree_before p) p.rules.now (tree_after p) p.moment ss))) all c.decide_all.ensures.made

pub returns-clause-fits : goal.returns-clause-fits
returns-clause-fits c =
    let p = c.args.passage.now in
    let all : map (λ (e : ℕ × Session). e.1) c.self.inside.sessions.entries ≡ all_sessions c.args.self.now.sessions =
    ap (map (λ (e : ℕ × Session). e.1)) (sym (entries_are c.self.inside.sessions.entries c.decide_all.ensures.ordered)) ∙ ap (λ (state : State). all_sessions state.sessions) c.self.view_is in
    subst (λ (ss : List Session). IfOk c.decide_all.result (λ decisions. length (fates_of (tree_before p) p.rules.now (tree_after p) p.moment ss) < 2 ^ 64)) all c.decide_all.ensures.fits

pub decide_all-requires-clause-heard : goal.decide_all-requires-clause-heard
decide_all-requires-clause-heard c was =
    let p = c.args.passage.now in
    subst (AllHeardIn p.rules.now (tree_before p)) (sym (ap (λ (state : State). state.sessions) c.self.view_is)) (c.requires.heard was)
