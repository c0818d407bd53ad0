use Rattle.std.proofs.Common.{◌≡◌, ◌++◌, [], length, take, drop, sym, ◌∙◌, ap, arith, length-append, take-append-drop}
use Rattle.std.proofs.lemmas.List.{append-nil, take_at}
use Rattle.journal.specs.Format.{opening, first_line, file_of}
use Rattle.journal.proofs.Chains.{length-first_line}
use Rattle.journal.proofs.Lines.{identifier_field}
use Rattle.journal.proofs.recovery.opened.Goals as goal

pub returns-then-len-lt-FIRST_LINE_BYTES-clause-no_journal : goal.returns-then-len-lt-FIRST_LINE_BYTES-clause-no_journal
returns-then-len-lt-FIRST_LINE_BYTES-clause-no_journal g c = λ file holds sized _ identifier sized_too begins.
    let long = ap length begins.1 in
    omega (arith, long, length-append (first_line identifier) begins.0, length-first_line identifier sized_too)

pub returns-then-not-same-clause-no_journal : goal.returns-then-not-same-clause-no_journal
returns-then-not-same-clause-no_journal g c = λ file holds sized _ identifier sized_too begins.
    let read = c.in_ok-read_at.ensures.bytes file holds (omega arith) in
    let line : c.read_at.new.buffer ≡ first_line identifier = read ∙ ap (λ l. take 97 l) begins.1 ∙ take_at (first_line identifier) begins.0 97 (length-first_line identifier sized_too) in
    let named : c.copy_from_slice.new.self ≡ identifier = c.copy_from_slice.ensures.after ∙ ap (λ l. take 16 (drop 15 l)) line ∙ identifier_field identifier sized_too in
    c.same.ensures.apart c.if-not-same.true (line ∙ ap first_line (sym named) ∙ sym c.in_ok-opening.ensures.line ∙ sym c.deref.ensures.value)

pub returns-clause-opened : goal.returns-clause-opened
returns-clause-opened g c = λ file holds sized.
    let read = c.in_ok-read_at.ensures.bytes file holds (omega arith) in
    let made = c.in_ok-opening.ensures in
    let chain = c.in_ok-opening.opening.chain in
    let named : chain.identifier ≡ c.copy_from_slice.new.self = ap (λ link. link.identifier) made.link in
    let line : take 97 file ≡ file_of chain.identifier [] = sym read ∙ c.same.ensures.same c.if-not-same.false ∙ c.deref.ensures.value ∙ made.line ∙ ap first_line (sym named) ∙ sym (append-nil (first_line chain.identifier)) in
    record {
      rest = drop 97 file;
      sized = ap length named ∙ made.sized;
      same = sym (take-append-drop 97 file) ∙ ap (λ l. l ++ drop 97 file) line;
      fit = tt;
      link = made.link ∙ ap opening (sym named);
    }
