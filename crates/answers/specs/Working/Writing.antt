-- Parts of refusals.
use Rattle.std.specs.Prelude.{ℕ, List, codes}
use Rattle.serde_json.specs.Data.{Data, string, object, Members, no_members, member}
use Rattle.judge.specs.declared.verdict.Why.{Why}
use Rattle.answers.specs.AnswerText.{why_text}

-- why a rule does not hold, the last member of an object
abbrev pub why_members : Why → Members
why_members why = member (codes "why") (string (why_text why)) no_members

-- a rule that is named, by the text of its pattern
abbrev pub named_rule_data : List ℕ → Why → Data
named_rule_data pattern why = object (member (codes "pattern") (string pattern) (why_members why))
