use Rattle.std.proofs.Common.{◌≡◌, ◌+◌, ◌-◌, ◌++◌, length, take, drop, get_or, arith, sym, ◌∙◌, ap}
use Rattle.std.proofs.lemmas.List.{take_rest}
use Rattle.journal.specs.Format.{digits, entry_text}
use Rattle.journal.proofs.Entries.{has_entry, same_length, entry_stands, eight, read_eight, small_eight}
use Rattle.journal.proofs.hand_over.first_entry.Goals as goal

pub returns-then-text-lt10-clause-none : goal.returns-then-text-lt10-clause-none
returns-then-text-lt10-clause-none c = λ entry more small same. let has = has_entry c.args.text.now entry more same in let long = has.long in omega arith

pub returns-in_err-len-clause-none : goal.returns-in_err-len-clause-none
returns-in_err-len-clause-none c =
    let text = c.args.text.now in
    rw c.from_residual.ensures (λ entry more small same. c.in_err-len.ensures.none (length entry) ((has_entry text entry more same).number ∙ ap (λ w. digits w (length entry)) (sym (eight text c.if-text-lt10.false))))

pub returns-then-len-text-clause-none : goal.returns-then-len-text-clause-none
returns-then-len-text-clause-none c = λ entry more small same.
    let text = c.args.text.now in
    let n = c.in_ok-len.len in
    let has = has_entry text entry more same in
    let long = has.long in
    let is = same_length text entry n has small (small_eight text n c.if-text-lt10.false c.in_ok-len.ensures.small) (read_eight text n c.if-text-lt10.false c.in_ok-len.ensures.number) in
    omega arith

pub returns-then-text-ne32-clause-none : goal.returns-then-text-ne32-clause-none
returns-then-text-ne32-clause-none c = λ entry more small same. c.if-text-ne32.true (has_entry c.args.text.now entry more same).space

pub returns-then-text-len-ne10-clause-none : goal.returns-then-text-len-ne10-clause-none
returns-then-text-len-ne10-clause-none c = λ entry more small same.
    let text = c.args.text.now in
    let n = c.in_ok-len.len in
    let has = has_entry text entry more same in
    let is = same_length text entry n has small (small_eight text n c.if-text-lt10.false c.in_ok-len.ensures.small) (read_eight text n c.if-text-lt10.false c.in_ok-len.ensures.number) in
    c.if-text-len-ne10.true (ap (λ k. get_or text (9 + k) 0) is ∙ has.feed)

pub returns-clause-entry : goal.returns-clause-entry
returns-clause-entry c =
    let text = c.args.text.now in
    let n = c.in_ok-len.len in
    let same : n ≡ 9 + n - 9 = omega arith in
    let rest = sym (take_rest text (10 + n)) in
    entry_stands text n (omega arith) (read_eight text n c.if-text-lt10.false c.in_ok-len.ensures.number) c.if-text-ne32.false c.if-text-len-ne10.false
    ∙ (λ i. entry_text (take (same i) (drop 9 text)) ++ rest i)
