use Rattle.std.proofs.Common.{Option, Some, option_map, ap, ◌∙◌}
use Rattle.std.specs.Borrow.{Bor}
use Rattle.expr_types.specs.Checked.{Checked}
use Rattle.evaluator.specs.Env.{access_of}
use Rattle.judge.specs.Working.Standing.{question_of}
use Rattle.judge.proofs.Places.{answers_none}
use Rattle.judge.proofs.spot.answer.Goals as goal

pub returns-in-None : goal.returns-in-None
returns-in-None c =
    answers_none (question_of c.args.asking.now) c.args.asking.now.kind c.args.spot.now.rule.now c.args.spot.now.here.now (access_of c.args.spot.now.access) c.args.captures.now c.requires.at
    (c.rule.ensures.stated ∙ ap (λ (o : Option (Bor Checked)). Some (option_map (λ (r : Bor Checked). r.now) o)) c.in-None.is)

pub answer_of-requires-clause-stated : goal.answer_of-requires-clause-stated
answer_of-requires-clause-stated c =
    c.rule.ensures.stated ∙ ap (λ (o : Option (Bor Checked)). Some (option_map (λ (r : Bor Checked). r.now) o)) c.in-Some.is
