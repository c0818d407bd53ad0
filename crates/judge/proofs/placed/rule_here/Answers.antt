use Rattle.evaluator.specs.Env.{access_of}
use Rattle.judge.specs.Working.Standing.{question_of}
use Rattle.judge.proofs.Stating.{no_rule, the_rule}
use Rattle.judge.proofs.placed.rule_here.Goals as goal

pub returns-in_default : goal.returns-in_default
returns-in_default c =
    no_rule (question_of c.args.asking.now) c.args.asking.now.kind c.args.spot.now.rule.now c.args.spot.now.here.now (access_of c.args.spot.now.access) c.args.captures c.requires.at c.in_default.ensures.stated

pub answer_of-requires-clause-stated : goal.answer_of-requires-clause-stated
answer_of-requires-clause-stated c = c.in-Some.ensures.stated

pub returns : goal.returns
returns c =
    the_rule (question_of c.args.asking.now) c.args.asking.now.kind c.args.spot.now.rule.now c.args.spot.now.here.now (access_of c.args.spot.now.access) c.args.captures c.in-Some.rule.now c.in_ok-answer.answer c.requires.at c.in-Some.ensures.stated
    c.in_ok-answer.ensures
