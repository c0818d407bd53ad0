use Rattle.std.proofs.Common.{subst}
use Rattle.std.specs.List.{AllByRecursion}
use Rattle.rules_reader.specs.Book.{Book}
use Rattle.lint.specs.Finding.{IsCertain}
use Rattle.lint.proofs.Lists.{if_ok_so}
use Rattle.lint.proofs.all_findings.lint.Goals as goal

-- what holds of the rules that were read holds of what the file states, which is one book
pub returns-in-Ok-clause-certain : goal.returns-in-Ok-clause-certain
returns-in-Ok-clause-certain c =
    if_ok_so _ _ c.findings_of.result
    (λ findings certain. λ book stated. subst (λ (b : Book). AllByRecursion (IsCertain b) findings.items) (c.a_file_has_one_answer.ensures.one_book c.args.file.now c.in-Ok.rules book c.in-Ok.ensures.accepted stated) certain)
    c.findings_of.ensures
