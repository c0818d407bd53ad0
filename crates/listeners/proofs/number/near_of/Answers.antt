use Rattle.std.proofs.Common.{◌≡◌, ◌+◌, ◌-◌, ◌*◌, true, get_or, drop, sym, ap, ◌∙◌, arith}
use Rattle.std.proofs.lemmas.List.{drop_more}
use Rattle.listeners.specs.Order.{is_digit}
use Rattle.listeners.specs.Working.Numbers.{read_after}
use Rattle.listeners.proofs.Numbers.{read_digit, read_great}
use Rattle.listeners.proofs.number.near_of.Goals as goal

pub returns-then-number-gt-GREATEST-clause-number : goal.returns-then-number-gt-GREATEST-clause-number
returns-then-number-gt-GREATEST-clause-number c =
    let digits = c.args.digits.now in
    let i = c.loop-digit.digit-index in
    let b = get_or digits i 0 in
    let n = c.loop-digit.number in
    let digit : is_digit b ≡ true = sym c.is_digit.ensures ∙ c.if-not-is_digit.false in
    let next : read_after n (drop i digits) ≡ read_after (n * 10 + (b - 48)) (drop (i + 1) digits) = ap (read_after n) (drop_more digits i 0 c.loop-digit-test.true) ∙ read_digit n b (drop (i + 1) digits) digit in
    sym (c.loop-digit.invariant.rest ∙ next ∙ read_great (n * 10 + (b - 48)) (drop (i + 1) digits) (omega (arith, c.if-number-gt-GREATEST.true, c.from.ensures)))
