use Rattle.std.proofs.Common.{◌≡◌, ◌==◌, ◌∙◌, sym, false, length, arith}
use Rattle.std.proofs.lemmas.Grind.{common_steps}
use Rattle.evaluator.specs.Value.{words}
use Rattle.evaluator.specs.Operators.{text_within}
use Rattle.evaluator.specs.Texts.{replace}
use Rattle.evaluator.proofs.Replacing.{replace_outside}
use Rattle.evaluator.proofs.texts.replaced.Goals as goal

pub returns-else-is_inside : goal.returns-else-is_inside
returns-else-is_inside c =
    let full : (length c.args.part.now == 0) ≡ false = grind (arith, common_steps) in
    let is : replace (words c.args.text.now) (words c.args.part.now) (words c.args.with.now) ≡ text_within c.args.text.now = replace_outside c.args.text.now c.args.part.now c.args.with.now full (sym c.is_inside.ensures ∙ c.if-is_inside.false) in
    rw is c.unchanged.ensures
