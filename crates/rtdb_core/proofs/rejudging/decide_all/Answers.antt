use Rattle.std.proofs.Common.{◌≡◌, ◌∙◌, ◌++◌, List, ◌∷◌, map, length, rules, arith, sym, ap, subst, append-nil}
use Rattle.std.specs.List.{AllByRecursion}
use Rattle.std.specs.Cmp.{nat_cmp_total}
use Rattle.std.proofs.lemmas.Map.Views.{All-found}
use Rattle.rtdb_model.specs.State.{Session}
use Rattle.std.proofs.Common.{Option}
use Rattle.evaluator.specs.Identity.{Identity}
use Rattle.rtdb_core.specs.Working.Fates.{fates_of, sparse}
use Rattle.rtdb_core.specs.Working.Heard.{AreHeard}
use Rattle.rtdb_core.specs.Working.Passages.{tree_before, tree_after, who_of}
use Rattle.rtdb_core.proofs.Collecting.{one_session}
use Rattle.rtdb_core.proofs.Staying.{SessionIsHeard, each_heard, next_heard}
use Rattle.rtdb_core.proofs.rejudging.decide_all.Goals as goal

pub loop-session-init : goal.loop-session-init
loop-session-init c =
    let p = c.args.passage.now in
    let fates = fates_of (tree_before p) p.rules.now (tree_after p) p.moment in
    let left : c.into_iter-session-iterator.result ≡ map (λ e. e.1) c.args.sessions.now.entries = search rules in
    (((λ i. c.new-decisions.ensures.made i ++ sparse (c.new-decisions.ensures.place i) (fates (left i))), omega (arith, c.new-decisions.ensures.place, ap (λ (ss : List Session). length (fates ss)) left)), λ was. subst (AllByRecursion (SessionIsHeard p.rules.now (tree_before p))) (sym left) (each_heard p.rules.now (tree_before p) c.args.sessions.now.entries c.args.sessions.now.entries (c.requires.heard was) (All-found nat_cmp_total c.args.sessions.now (search rules))), c.by-moved.ensures)

pub loop-session-preserved : goal.loop-session-preserved
loop-session-preserved c =
    let p = c.args.passage.now in
    let first : c.loop-session.session-iterator ≡ c.in-Some.session.now ∷ c.next.new.self = search rules in
    (one_session (tree_before p) p.rules.now (tree_after p) p.moment c.loop-session.session-iterator c.next.new.self c.in-Some.session.now c.loop-session.decisions.place c.decide_each.new.decisions.place c.loop-session.decisions.made.items c.decide_each.new.decisions.made.items (who_of c.identity.result) c.listeners.result.now _ _ c.loop-session.invariant.0 first c.identity.ensures c.listeners.ensures c.in_ok-decide_each.ensures.place c.in_ok-decide_each.ensures.made, λ was. (next_heard p.rules.now (tree_before p) c.loop-session.session-iterator c.next.new.self c.in-Some.session.now first (c.loop-session.invariant.1 was)).1, c.decide_each.ensures.moved ∙ c.loop-session.invariant.2)

pub returns-clause-made : goal.returns-clause-made
returns-clause-made c =
    let p = c.args.passage.now in
    let fates = fates_of (tree_before p) p.rules.now (tree_after p) p.moment in
    sym (append-nil c.loop-session.decisions.made.items) ∙ ap (λ (ss : List Session). c.loop-session.decisions.made.items ++ sparse c.loop-session.decisions.place (fates ss)) (sym c.in-None.ensures.steps.0) ∙ c.loop-session.invariant.0.0

pub returns-clause-fits : goal.returns-clause-fits
returns-clause-fits c =
    let p = c.args.passage.now in
    omega (arith, c.law.ensures, c.loop-session.invariant.0.1, ap (λ (ss : List Session). length (fates_of (tree_before p) p.rules.now (tree_after p) p.moment ss)) c.in-None.ensures.steps.0)

pub decide_each-requires-clause-heard : goal.decide_each-requires-clause-heard
decide_each-requires-clause-heard c was =
    let p = c.args.passage.now in
    let first : c.loop-session.session-iterator ≡ c.in-Some.session.now ∷ c.next.new.self = search rules in
    subst (λ (who : Option Identity). AreHeard p.rules.now (tree_before p) who c.listeners.result.now) (sym c.identity.ensures)
    (subst (AreHeard p.rules.now (tree_before p) c.in-Some.session.now.identity) (sym c.listeners.ensures)
    (next_heard p.rules.now (tree_before p) c.loop-session.session-iterator c.next.new.self c.in-Some.session.now first (c.loop-session.invariant.1 was)).0)
