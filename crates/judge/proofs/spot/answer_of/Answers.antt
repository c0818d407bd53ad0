use Rattle.expr_types.proofs.There.{there}
use Rattle.evaluator.specs.Env.{access_of}
use Rattle.judge.specs.Working.Standing.{question_of}
use Rattle.judge.proofs.Places.{answers_some, suits}
use Rattle.judge.proofs.spot.answer_of.Goals as goal

pub evaluate-requires : goal.evaluate-requires
evaluate-requires c =
    suits (question_of c.args.asking.now) c.args.asking.now.kind c.args.spot.now.rule.now c.args.spot.now.here.now (access_of c.args.spot.now.access) c.args.captures.now c.args.rule.now c.requires.here.at c.requires.here.asks c.requires.lawful
    (λ f h. there _ f c.requires.lawful.sorted.1 h)

pub returns : goal.returns
returns c =
    answers_some (question_of c.args.asking.now) c.args.asking.now.kind c.args.spot.now.rule.now c.args.spot.now.here.now (access_of c.args.spot.now.access) c.args.captures.now c.args.rule.now c.in_ok-outcome.outcome c.requires.here.at
    c.requires.stated c.in_ok-outcome.ensures.outcome
