use Rattle.std.proofs.Common.{sym, subst}
use Rattle.json.specs.Token as tokens
use Rattle.json_lines.specs.Tokens.{BeginsWith, EndsValue}
use Rattle.json_lines.proofs.Lexing.{string_first, number_first, negative_first, true_first, false_first, null_first}
use Rattle.json_lines.proofs.plain_scalars.plain_scalar.Goals as goal

pub returns-in_ok-ending-in-34 : goal.returns-in_ok-ending-in-34
returns-in_ok-ending-in-34 c =
    let text = c.args.text.now in
    let words = c.in_ok-words-in-34.words.now in
    let rest = c.in_ok-ending-in-34 in
    subst (BeginsWith (tokens.string words) text) (sym rest.ensures.same)
    (string_first text words c.in_ok-words-in-34.behind.now c.in_ok-words-in-34.ensures (subst EndsValue rest.ensures.same rest.ensures.ends))

pub returns-in_ok-digits-in-48-to-57 : goal.returns-in_ok-digits-in-48-to-57
returns-in_ok-digits-in-48-to-57 c =
    let found = c.in_ok-digits-in-48-to-57 in
    number_first c.args.text.now found.digits.now found.behind.now found.ensures.digits found.ensures.ends

pub returns-in_ok-number-in-45 : goal.returns-in_ok-number-in-45
returns-in_ok-number-in-45 c =
    let found = c.in_ok-number-in-45 in
    negative_first c.args.text.now found.number.now found.behind.now found.ensures

pub returns-in_ok-past_literal-in-116 : goal.returns-in_ok-past_literal-in-116
returns-in_ok-past_literal-in-116 c =
    let rest = c.in_ok-past_literal-in-116 in
    true_first c.args.text.now rest.field-0.now rest.ensures.whole rest.ensures.ends

pub returns-in_ok-past_literal-in-102 : goal.returns-in_ok-past_literal-in-102
returns-in_ok-past_literal-in-102 c =
    let rest = c.in_ok-past_literal-in-102 in
    false_first c.args.text.now rest.field-0.now rest.ensures.whole rest.ensures.ends

pub returns-in_ok-past_literal-in-110 : goal.returns-in_ok-past_literal-in-110
returns-in_ok-past_literal-in-110 c =
    let rest = c.in_ok-past_literal-in-110 in
    null_first c.args.text.now rest.field-0.now rest.ensures.whole rest.ensures.ends
