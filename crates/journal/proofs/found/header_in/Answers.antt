use Rattle.std.proofs.Common.{length, take, sym, ◌∙◌, ap, subst, arith}
use Rattle.journal.specs.Found.{HaveDigits}
use Rattle.journal.proofs.Texts.{fields}
use Rattle.journal.proofs.Lines.{same_numbers, same_front, front_field, line_parts}
use Rattle.journal.proofs.found.header_in.Goals as goal

pub returns-in_default-clause-none : goal.returns-in_default-clause-none
returns-in_default-clause-none c = λ link group same_file sized fits is.
    c.in_default.ensures.none link.number (length group.text) group.durable
    (subst (λ l. HaveDigits l link.number (length group.text) group.durable) (sym is) (fields link (ap length same_file ∙ c.requires.identifier) sized group))

pub returns-then-numbers-gt-MAX_GROUP_BYTES-clause-none : goal.returns-then-numbers-gt-MAX_GROUP_BYTES-clause-none
returns-then-numbers-gt-MAX_GROUP_BYTES-clause-none c = λ link group same_file sized fits is.
    let same = same_numbers link (ap length same_file ∙ c.requires.identifier) sized group fits c.args.line.now c.in-Some.numbers is c.in-Some.ensures.some c.in-Some.ensures.small in
    omega (arith, same.1, fits.text)

pub returns-then-not-same-clause-none : goal.returns-then-not-same-clause-none
returns-then-not-same-clause-none c = λ link group same_file sized fits is.
    let named = ap length same_file ∙ c.requires.identifier in
    let front = same_front link named sized group fits c.args.line.now c.in-Some.numbers c.args.identifier.now c.copy_from_slice.new.self same_file is c.in-Some.ensures.some c.in-Some.ensures.small c.copy_from_slice.ensures.after in
    c.same.ensures.apart c.if-not-same.true (ap (λ l. take 120 l) is ∙ front_field link named sized group ∙ sym front ∙ sym c.in_ok-front.ensures ∙ sym c.deref.ensures.value)

pub returns-clause-line : goal.returns-clause-line
returns-clause-line c =
    line_parts c.args.line.now c.in_ok-front.front.items c.requires.line (c.same.ensures.same c.if-not-same.false ∙ c.deref.ensures.value) c.if-line-ne10.false
