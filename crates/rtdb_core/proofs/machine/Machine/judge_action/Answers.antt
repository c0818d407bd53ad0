use Rattle.std.proofs.Common.{◌≤◌, ◌∙◌, List, map, option_map, inr, sym, ap, subst}
use Rattle.tree_model.specs.Put.{overlaps}
use Rattle.tree_model.specs.Tree.{count}
use Rattle.tree_model.specs.Write.{Write, AreFixed}
use Rattle.rtdb_model.specs.declared.limits.TheConstants.{MAX_LOCATIONS}
use Rattle.rtdb_model.specs.Borrowed.{refusal_of}
use Rattle.rtdb_model.specs.FilledWrites.{filled_in}
use Rattle.rtdb_model.specs.State.{State}
use Rattle.rtdb_model.specs.Step.{tree_with}
use Rattle.rtdb_model.proofs.Filling.{moment_is_whole}
use Rattle.rtdb_core.specs.Working.Fates.{with_settled, with_tree}
use Rattle.rtdb_core.specs.Working.Passages.{who_of}
use Rattle.rtdb_core.specs.Working.Plans.{IsRunSo}
use Rattle.rtdb_core.proofs.Refusing.{tree_is_proposed}
use Rattle.rtdb_core.proofs.Running.{made_apart, in_order_apart, in_order_fixed, in_order_tree, made_room, made_decided}
use Rattle.rtdb_core.proofs.machine.Machine.judge_action.Goals as goal

pub overlay-requires-clause-moment : goal.overlay-requires-clause-moment
overlay-requires-clause-moment c = moment_is_whole c.args.now c.requires.moment

pub write_refusal-requires-clause-proposes : goal.write_refusal-requires-clause-proposes
write_refusal-requires-clause-proposes c =
    tree_is_proposed c.as_ref.result c.self.inside.tree c.args.self.now.tree c.in_ok-coming.coming c.in_order-writes.result.now c.args.now c.as_ref.ensures.value (ap (λ (state : State). state.tree) c.self.view_is) c.in_ok-coming.ensures

pub decide_proposed-requires-clause-apart : goal.decide_proposed-requires-clause-apart
decide_proposed-requires-clause-apart c =
    in_order_apart c.args.self.now c.args.now c.in_order-writes.result.now c.fill.new.self c.in_order.result.now c.in_order-writes.ensures.apart
    (c.fill.ensures.filled ∙ ap (map (filled_in c.args.now)) c.in_ok-made.ensures) c.fill.ensures.none c.in_order.ensures.permutation

pub decide_proposed-requires-clause-fixed : goal.decide_proposed-requires-clause-fixed
decide_proposed-requires-clause-fixed c =
    in_order_fixed c.args.self.now c.args.now c.in_order-writes.result.now c.fill.new.self c.in_order.result.now c.in_order-writes.ensures.apart
    (c.fill.ensures.filled ∙ ap (map (filled_in c.args.now)) c.in_ok-made.ensures) c.fill.ensures.none c.in_order.ensures.permutation

pub decide_proposed-requires-clause-proposes : goal.decide_proposed-requires-clause-proposes
decide_proposed-requires-clause-proposes c =
    tree_is_proposed c.as_ref.result c.self.inside.tree c.args.self.now.tree c.in_ok-coming.coming c.in_order-writes.result.now c.args.now c.as_ref.ensures.value (ap (λ (state : State). state.tree) c.self.view_is) c.in_ok-coming.ensures
    ∙ in_order_tree c.args.self.now c.args.now c.in_order-writes.result.now c.fill.new.self c.in_order.result.now c.in_order-writes.ensures.apart
    (c.fill.ensures.filled ∙ ap (map (filled_in c.args.now)) c.in_ok-made.ensures) c.fill.ensures.none c.in_order.ensures.permutation

pub returns : goal.returns
returns c =
    let old = c.args.self.now in
    let now = c.args.now in
    let who = who_of c.args.who in
    let ws = c.in_order-writes.result.now in
    let made = c.fill.new.self in
    let xs = c.in_order.result.now in
    let apart = c.in_order-writes.ensures.apart in
    let filled = c.fill.ensures.filled ∙ ap (map (filled_in now)) c.in_ok-made.ensures in
    let fixed = c.fill.ensures.none in
    let ordered = c.in_order.ensures.permutation in
    let granted = sym c.in_ok-refusal.ensures ∙ ap (option_map refusal_of) c.in_default.is in
    let boxed = c.in_ok-boxed.ensures.ok in
    subst (λ (all : List Write). IsRunSo old now who all c.applied.result) c.in_order-writes.ensures.writes (inr (record {
      made = c.in_ok-boxed.boxed;
      granted = granted;
      applied = c.applied.ensures.reply;
      run = c.applied.ensures.run;
      apart = ap overlaps boxed ∙ made_apart old now ws made xs apart filled fixed ordered;
      fixed = subst AreFixed (sym boxed) fixed;
      room = subst (λ (all : List Write). count (tree_with old 0 all) ≤ MAX_LOCATIONS) (sym boxed) (made_room old now ws made xs apart filled fixed ordered who granted);
      decided =
          (λ i. with_settled (with_tree old 0 (boxed i)) (c.applied.ensures.decided i).made.items)
          ∙ made_decided old now ws made xs apart filled fixed ordered c.in_ok-decisions.decisions.made.items c.in_ok-decisions.ensures;
    }))
