use Rattle.std.proofs.Common.{sym, ap, subst}
use Rattle.rules_reader.specs.declared.rule_text.Unread.{Unread}
use Rattle.rules_reader.specs.Part.{Pattern, texts}
use Rattle.rules_reader.specs.Unread.{Stops}
use Rattle.diagnosis.specs.Finding.{HasBadText}
use Rattle.diagnosis.proofs.search.Search.fault_of_rule.Goals as goal

pub returns : goal.returns
returns c =
    let same = ap texts c.in_ok-pattern-in-Err-NoRule.ensures in
    let stops = subst (λ (why : Unread). Stops (texts c.args.pattern.now) c.args.kind c.args.text.now why) c.in-Err-NoRule.field-0-is c.in-Err-NoRule.ensures.fault in
    subst (λ (at : Pattern). HasBadText c.args.self.now.text.now at c.args.kind c.in-Err-NoRule.fault) (sym same)
    (record { rule = c.args.text.now; there = c.requires; none = stops })
