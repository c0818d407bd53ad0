use Rattle.std.proofs.Common.{◌≡◌, ◌∙◌, ◌<◌, ◌^◌, List, map, length, IfOk, sym, ap, subst}
use Rattle.rtdb_core.specs.Working.Heard.{AreHeard}
use Rattle.arena_snapshot.specs.View.{node_or_null}
use Rattle.listeners.specs.Table.{Listener}
use Rattle.rtdb_model.specs.State.{State}
use Rattle.rtdb_core.specs.Working.Fates.{sparse, fate_of}
use Rattle.rtdb_core.specs.Working.Passages.{who_of}
use Rattle.rtdb_core.proofs.Passing.{base_is}
use Rattle.rtdb_core.proofs.machine.Machine.decide_own.Goals as goal

pub returns-clause-made : goal.returns-clause-made
returns-clause-made c =
    let p = c.staying-passage.result in
    let s = c.args.self.now in
    let base : node_or_null c.as_ref.result ≡ s.tree = base_is c.as_ref.result c.self.inside.tree c.as_ref.ensures.value ∙ ap (λ (state : State). state.tree) c.self.view_is in
    let rules : p.rules.now ≡ s.rules = c.staying-passage.ensures.rules ∙ ap (λ (state : State). state.rules) c.self.view_is in
    subst (λ ds. IfOk c.decide_own.result (λ decisions. decisions.made.items ≡ ds))
    (λ i. sparse 0 (map (fate_of ((c.staying-passage.ensures.before ∙ base) i) (rules i) ((c.staying-passage.ensures.after ∙ base) i) (c.staying-passage.ensures.moment i) (who_of c.args.who)) (c.listeners.ensures i)))
    c.decide_own.ensures.made

pub returns-clause-fits : goal.returns-clause-fits
returns-clause-fits c = subst (λ (ls : List Listener). IfOk c.decide_own.result (λ decisions. length ls < 2 ^ 64)) c.listeners.ensures c.decide_own.ensures.fits

pub decide_own-requires-clause-heard : goal.decide_own-requires-clause-heard
decide_own-requires-clause-heard c was =
    let p = c.staying-passage.result in
    let s = c.args.self.now in
    let base : node_or_null c.as_ref.result ≡ s.tree = base_is c.as_ref.result c.self.inside.tree c.as_ref.ensures.value ∙ ap (λ (state : State). state.tree) c.self.view_is in
    let rules : p.rules.now ≡ s.rules = c.staying-passage.ensures.rules ∙ ap (λ (state : State). state.rules) c.self.view_is in
    subst (λ x. x) (sym (λ i. AreHeard (rules i) ((c.staying-passage.ensures.before ∙ base) i) (who_of c.args.who) (c.listeners.ensures i))) (c.requires.heard (sym c.staying-passage.ensures.heard ∙ was))
