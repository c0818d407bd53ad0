use Rattle.std.proofs.Common.{◌∙◌, ap, sym, Some, arith, rules, string_bytes}
use Rattle.std.proofs.lemmas.Grind.{common_steps}
use Rattle.evaluator.specs.Value.{words}
use Rattle.evaluator.proofs.Replacing.{Made-none, Made-more, Made-all, less_behind, long_front, long_with, long_rest}
use Rattle.evaluator.proofs.texts.made_anew.Goals as goal

pub loop-before-init : goal.loop-before-init
loop-before-init c = (search rules, Made-none c.args.text.now c.args.part.now c.args.with.now (string_bytes c.in_ok-made.made) c.in_ok-made.ensures.bytes)

pub returns-in_err-add : goal.returns-in_err-add
returns-in_err-add c =
    grind (arith, common_steps, long_front c.args.text.now c.args.part.now c.args.with.now (string_bytes c.loop-before.made) c.loop-before.rest.now c.in-Some.before.now c.in-Some.behind.now c.requires.some c.loop-before.invariant.1 (sym c.in-Some.ensures))

pub returns-in_err-add-2 : goal.returns-in_err-add-2
returns-in_err-add-2 c =
    grind (arith, common_steps, long_with c.args.text.now c.args.part.now c.args.with.now (string_bytes c.loop-before.made) c.loop-before.rest.now c.in-Some.before.now c.in-Some.behind.now (string_bytes c.add.new.made) c.requires.some c.loop-before.invariant.1 (sym c.in-Some.ensures) c.in_ok-add.ensures.added)

pub loop-before-smaller : goal.loop-before-smaller
loop-before-smaller c = less_behind c.args.part.now c.loop-before.rest.now c.in-Some.before.now c.in-Some.behind.now c.requires.some (sym c.in-Some.ensures)

pub loop-before-preserved : goal.loop-before-preserved
loop-before-preserved c = (search rules, Made-more c.args.text.now c.args.part.now c.args.with.now (string_bytes c.loop-before.made) c.loop-before.rest.now c.in-Some.before.now c.in-Some.behind.now (string_bytes c.add.new.made) (string_bytes c.add-in-Some.new.made) c.requires.some c.loop-before.invariant.1 (sym c.in-Some.ensures) c.in_ok-add.ensures.added c.in_ok-add-2.ensures.added)

pub returns-in_err-add-3 : goal.returns-in_err-add-3
returns-in_err-add-3 c =
    grind (arith, common_steps, long_rest c.args.text.now c.args.part.now c.args.with.now (string_bytes c.loop-before.made) c.loop-before.rest.now c.loop-before.invariant.1 (sym c.in_default.ensures))

pub returns : goal.returns
returns c =
    let whole = Made-all c.args.text.now c.args.part.now c.args.with.now (string_bytes c.loop-before.made) c.loop-before.rest.now (string_bytes c.add-2.new.made) c.loop-before.invariant.1 (sym c.in_default.ensures) c.in_ok-add-3.ensures.added c.in_ok-add-3.ensures.fits
    ∙ ap (λ x. Some (words x)) (sym c.into_bump_str.ensures) in
    search (rules, whole)
