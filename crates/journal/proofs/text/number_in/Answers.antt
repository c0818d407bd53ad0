use Rattle.std.proofs.Common.{◌≡◌, ◌+◌, ◌<◌, ◌∷◌, [], ◌++◌, get_or, arith, refl, sym, ◌∙◌, ap}
use Rattle.std.proofs.lemmas.List.{take_more}
use Rattle.journal.specs.Format.{digits}
use Rattle.journal.proofs.Digits.{no_digits, not_digits, digits_next, pow_room, pow_next}
use Rattle.journal.proofs.text.number_in.Goals as goal
use Rattle.journal.proofs.text.number_in.Goals.{then-digit-lt48-via-then-digit-lt48, then-digit-lt48-via-else-digit-lt48+then-digit-gt57}

pub loop-digit-init : goal.loop-digit-init
loop-digit-init c = record { same = no_digits 0 0 refl; small = omega arith }

pub returns-then-digit-lt48-clause-none : goal.returns-then-digit-lt48-clause-none
returns-then-digit-lt48-clause-none c =
    not_digits c.args.text.now c.loop-digit.digit-index c.loop-digit-test.true
    (λ low high. elim c.then-digit-lt48.branch [ then-digit-lt48-via-then-digit-lt48 w ↦ omega arith | then-digit-lt48-via-else-digit-lt48+then-digit-gt57 w ↦ omega arith ])

pub overflow_mul-number : goal.overflow_mul-number
overflow_mul-number c = omega (arith, pow_room c.loop-digit.digit-index (omega arith))

pub overflow_add-number : goal.overflow_add-number
overflow_add-number c = omega (arith, pow_room c.loop-digit.digit-index (omega arith))

pub loop-digit-preserved : goal.loop-digit-preserved
loop-digit-preserved c =
    let text = c.args.text.now in
    let i = c.loop-digit.digit-index in
    let small : c.from.result < 10 = omega arith in
    let digit : 48 + c.from.result ≡ get_or text i 0 = omega arith in
    record {
      same = digits_next i c.loop-digit.number c.from.result small ∙ ap (λ d. digits i c.loop-digit.number ++ d ∷ []) digit ∙ ap (λ l. l ++ get_or text i 0 ∷ []) c.loop-digit.invariant.same ∙ sym (take_more text i 0 c.loop-digit-test.true);
      small = omega (arith, pow_next i);
    }
