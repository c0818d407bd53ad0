use Rattle.std.proofs.Common.{◌∙◌, ◌++◌, ℕ, List, length, ap}
use Rattle.rules_reader.specs.Book.{Book, rules}
use Rattle.scripts.specs.Said.{as_line}
use Rattle.answers.specs.AnswerText.{accepted_text}
use Rattle.scripts.proofs.Answering.{AnswersAt-accepted}
use Rattle.scripts.proofs.respond.open.Goals as goal

pub returns-in_ok-put_accepted-in-Ok-clause-opened : goal.returns-in_ok-put_accepted-in-Ok-clause-opened
returns-in_ok-put_accepted-in-Ok-clause-opened c =
    let count = ap (λ (n : ℕ). accepted_text n) (c.count.ensures ∙ ap (λ (book : Book). length (rules book)) c.rules.ensures.rules) in
    let said = c.in_ok-put_accepted-in-Ok.ensures.text ∙ ap (λ (t : List ℕ). t ++ accepted_text c.count.result) c.requires.none ∙ count in
    AnswersAt-accepted c.args.line.now c.in-Ok.opened _ c.in-Ok.ensures (ap (λ (t : List ℕ). as_line t) said)
