use Rattle.std.proofs.Common.{◌∙◌, ◌++◌, Option, arith, map, option_map, ap}
use Rattle.arena_snapshot.specs.View.{node_or_null}
use Rattle.listeners.specs.Listener.{seen}
use Rattle.rtdb_model.specs.Step.{told, news_of}
use Rattle.rtdb_model.specs.Tidings.{notice_of}
use Rattle.rtdb_core.specs.Working.Fates.{settled, fated}
use Rattle.rtdb_core.specs.declared.fates.Fate.{Fate}
use Rattle.rtdb_core.proofs.Borrowed.{told_more, told_as_before}
use Rattle.rtdb_core.proofs.Fatings.{tells_on, all_told}
use Rattle.rtdb_core.proofs.telling.tidings_of.Goals as goal
use Rattle.rtdb_core.proofs.telling.tidings_of.Goals.{in-Some+in_ok-push, in_default}

pub loop-index-init : goal.loop-index-init
loop-index-init c = record {
  news = λ i. map notice_of (c.new-tidings.ensures.items i) ++ news_of (node_or_null c.args.tree) (settled (c.new-docket.ensures.place i) (c.new-docket.ensures.decisions i) c.args.listeners.now);
  tree = c.new-selections.ensures;
}

pub loop-index-preserved : goal.loop-index-preserved
loop-index-preserved c = record {
  news = tells_on (node_or_null c.args.tree) c.args.listeners.now c.loop-index.index c.loop-index.docket.place c.behind-docket.result.place c.loop-index.docket.decisions.now c.behind-docket.result.decisions.now (seen c.entry.result) (option_map notice_of c.in_ok-tiding.field-0) (map notice_of c.loop-index.tidings.items) (map notice_of c.match-branch-2.tidings.items) (news_of (node_or_null c.args.tree) (settled 0 c.args.decisions.now c.args.listeners.now)) c.loop-index.invariant.news
      c.entry.ensures
      (c.in_ok-tiding.ensures.told ∙ ap (λ t. told t (seen c.after-listener.result)) c.loop-index.invariant.tree ∙ ap (told (node_or_null c.args.tree)) (c.after-listener.ensures ∙ ap (λ (o : Option Fate). fated o (seen c.entry.result)) c.front.ensures))
      (elim c.match-branch-2.branch [
        | in-Some+in_ok-push w ↦ told_more c.loop-index.tidings.items c.match-branch-2.tidings.items w.in-Some.tiding c.in_ok-tiding.field-0 (ap (λ v. v.items) w.tidings-is ∙ w.in_ok-push.ensures.items) w.in-Some.is
        | in_default w ↦ told_as_before c.loop-index.tidings.items c.match-branch-2.tidings.items c.in_ok-tiding.field-0 (ap (λ v. v.items) w.tidings-is) w.in_default.is
      ])
      c.behind-docket.ensures.place
      c.behind-docket.ensures.decisions;
  tree = c.told.ensures.same ∙ c.loop-index.invariant.tree;
}

pub returns : goal.returns
returns c = c.of_vec.ensures ∙ all_told (node_or_null c.args.tree) c.args.listeners.now c.loop-index.index c.loop-index.docket.place c.loop-index.docket.decisions.now (map notice_of c.loop-index.tidings.items) (news_of (node_or_null c.args.tree) (settled 0 c.args.decisions.now c.args.listeners.now)) c.loop-index.invariant.news (omega (arith, c.loop-index-test.false, c.len-index-end.ensures))
