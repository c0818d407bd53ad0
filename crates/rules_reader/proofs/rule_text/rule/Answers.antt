use Rattle.std.proofs.Common.{[], ap, subst}
use Rattle.rules_reader.specs.Part.{texts}
use Rattle.rules_reader.specs.Book.{stated}
use Rattle.rules_reader.specs.Spelled.{IsFirstBad}
use Rattle.rules_reader.specs.Unread.{Stops}
use Rattle.rules_reader.proofs.RulesBelow.{only_bad}
use Rattle.rules_reader.proofs.rule_text.rule.Goals as goal

pub returns-in_ok-pattern-in-Err-NoRule-clause-fault : goal.returns-in_ok-pattern-in-Err-NoRule-clause-fault
returns-in_ok-pattern-in-Err-NoRule-clause-fault c =
    subst (λ o. IsFirstBad (texts c.args.pattern.now) (stated [] c.args.kind o) (texts c.in_ok-pattern-in-Err-NoRule.pattern) c.args.kind c.in-Err-NoRule.fault) c.in-Some.ensures
    (only_bad (texts c.args.pattern.now) (texts c.in_ok-pattern-in-Err-NoRule.pattern) c.args.kind c.in-Some.text.now c.in-Err-NoRule.fault (ap texts c.in_ok-pattern-in-Err-NoRule.ensures) (subst (Stops (texts c.args.pattern.now) c.args.kind c.in-Some.text.now) c.in-Err-NoRule.field-0-is (c.in-Err-NoRule.ensures.fault (texts c.args.pattern.now) c.requires)))
