use Rattle.std.proofs.Common.{◌+◌, ◌-◌, ◌/◌, ◌<◌, length, ◌∙◌, arith}
use Rattle.arena_snapshot.specs.Working.Change.{entries_of}
use Rattle.arena_snapshot.proofs.Ranks.{width-entries}
use Rattle.listeners.proofs.Searching.{all_upto, none_from, read_key}
use Rattle.listeners.proofs.search.count.Goals as goal

pub loop-low-init : goal.loop-low-init
loop-low-init c =
    let wide = width-entries c.args.view.now in
    record {
      order = omega arith;
      within = omega arith;
      before = λ i d low. absurd (omega arith);
      behind = λ i d low inside. absurd (omega arith);
    }

pub loop-low-preserved-then-is_on : goal.loop-low-preserved-then-is_on
loop-low-preserved-then-is_on c =
    let t = c.args.view.now in
    let m = c.loop-low.low + (c.loop-low.high - c.loop-low.low) / 2 in
    let inside : m < length (entries_of t) = omega arith in
    record {
      order = omega arith;
      within = omega arith;
      before = all_upto t c.args.side c.args.key.now m inside (λ d. read_key t c.args.side c.args.key.now m c.is_on.result inside c.is_on.ensures d ∙ c.if-is_on.true);
      behind = c.loop-low.invariant.behind;
    }

pub loop-low-preserved : goal.loop-low-preserved
loop-low-preserved c =
    let t = c.args.view.now in
    let m = c.loop-low.low + (c.loop-low.high - c.loop-low.low) / 2 in
    let inside : m < length (entries_of t) = omega arith in
    record {
      order = omega arith;
      within = omega arith;
      before = c.loop-low.invariant.before;
      behind = none_from t c.args.side c.args.key.now m inside (λ d. read_key t c.args.side c.args.key.now m c.is_on.result inside c.is_on.ensures d ∙ c.if-is_on.false);
    }
