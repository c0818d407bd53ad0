use Rattle.std.proofs.Common.{refl, ap, ◌∙◌, subst}
use Rattle.tree_model.specs.Key.{Key}
use Rattle.rules_reader.specs.Node.{NoneMatches, Steps}
use Rattle.evaluator.specs.Value.{Snapshot}
use Rattle.evaluator.specs.Snapshot.{below}
use Rattle.evaluator.specs.Env.{access_of}
use Rattle.judge.specs.Working.Standing.{question_of}
use Rattle.judge.proofs.Places.{silent_beyond, is_at_next}
use Rattle.judge.proofs.spot.enter.Goals as goal

pub returns-in_default : goal.returns-in_default
returns-in_default c =
    let at = c.requires.here.at in
    let none = subst (λ (key : Key). NoneMatches c.args.spot.now.rule.now.book key) c.text-text.ensures.bytes c.in_default.ensures.none in
    (refl, λ r. silent_beyond (question_of c.args.asking.now) c.args.asking.now.kind c.args.spot.now.rule.now c.args.spot.now.here.now.1 c.args.key.now r at.one at.reached none)

pub returns : goal.returns
returns c =
    let bytes = c.text-text.ensures.bytes in
    let found = subst (λ (key : Key). Steps c.args.spot.now.rule.now key c.in-Some.rule.now) bytes c.in-Some.ensures.found in
    let moved = c.in_ok-here.ensures ∙ ap (below c.args.spot.now.here.now) bytes in (
      record {
        at = is_at_next (question_of c.args.asking.now) c.args.spot.now.rule.now c.in-Some.rule.now c.args.spot.now.here.now c.in_ok-here.here.now (access_of c.args.spot.now.access) (access_of c.lower.new.access) c.args.key.now c.args.captures.now c.bind.new.captures
            c.requires.here.at found moved c.in_ok-lower.ensures c.in_ok-bind.ensures;
        asks = c.requires.here.asks;
      },
      ap (λ (s : Snapshot). s.1) moved,
      c.in_ok-bind.ensures,
    )
