use Rattle.std.proofs.Common.{◌<◌, length, sym, ◌∙◌, arith}
use Rattle.path_capture.specs.Pattern.{part_of}
use Rattle.lint.proofs.Prefixes.{apart_from_here, same_so_far, ends_early}
use Rattle.lint.proofs.Lists.{none_within}
use Rattle.lint.proofs.captures.is_prefix_of.Goals as goal

pub returns-then-not-is_same_part : goal.returns-then-not-is_same_part
returns-then-not-is_same_part c =
    sym (apart_from_here c.args.above.now c.args.below.now c.loop-index.index (part_of c.in-Some-Some.one.now) (part_of c.in-Some-Some.other.now) (sym c.in-Some-Some.ensures) (sym c.in-Some-Some.ensures') (sym c.is_same_part.ensures ∙ c.if-not-is_same_part.true))
    ∙ c.loop-index.invariant

pub returns-in_default : goal.returns-in_default
returns-in_default c = sym (ends_early c.args.above.now c.args.below.now c.loop-index.index (part_of c.in_default.field-0-0.now) (sym c.in_default.ensures) (sym c.in_default.ensures')) ∙ c.loop-index.invariant

pub returns-in_default-2 : goal.returns-in_default-2
returns-in_default-2 c =
    let within : c.loop-index.index < length c.args.above.now = omega arith in
    absurd (none_within c.args.above.now c.loop-index.index within (sym c.in_default.ensures))

pub loop-index-preserved : goal.loop-index-preserved
loop-index-preserved c =
    sym (same_so_far c.args.above.now c.args.below.now c.loop-index.index (part_of c.in-Some-Some.one.now) (part_of c.in-Some-Some.other.now) (sym c.in-Some-Some.ensures) (sym c.in-Some-Some.ensures') (sym c.is_same_part.ensures ∙ c.if-not-is_same_part.false))
    ∙ c.loop-index.invariant
