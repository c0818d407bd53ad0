use Rattle.std.proofs.lemmas.Result.{err_from_is_err_and}
use Rattle.rules_reader.specs.Part.{texts}
use Rattle.rules_reader.specs.File.{rule_texts}
use Rattle.rules_reader.proofs.RulesBelow.{blamed_validate, blamed_write}
use Rattle.rules_reader.proofs.objects.own_rules.Goals as goal

pub returns-in_err-validate-clause-fault : goal.returns-in_err-validate-clause-fault
returns-in_err-validate-clause-fault c =
    let p = err_from_is_err_and c.from_residual-in_err-validate.result c.from_residual-in_err-validate.ensures.1 in
    rw (p.1, p.2) (λ ms is. blamed_validate (texts c.args.pattern.now) (rule_texts ms) c.in_ok-read.read c.in_err-validate.field-0.0 (rw is at c.in_ok-read.ensures.spelled) (rw is at c.in_err-validate.ensures.fault))

pub returns-in_err-write-clause-fault : goal.returns-in_err-write-clause-fault
returns-in_err-write-clause-fault c =
    let p = err_from_is_err_and c.from_residual-in_err-write.result c.from_residual-in_err-write.ensures.1 in
    rw (p.1, p.2) (λ ms is. blamed_write (texts c.args.pattern.now) (rule_texts ms) c.in_ok-read.read c.in_ok-validate.validate c.in_err-write.field-0.0 (rw is at c.in_ok-read.ensures.spelled) (rw is at c.in_ok-validate.ensures.spelled) (rw is at c.in_err-write.ensures.fault))
