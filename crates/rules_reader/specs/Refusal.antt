-- Which refusal a text deserves.
use Rattle.std.specs.Prelude.{ℕ, List, ⊤}
use Rattle.rules_reader.specs.declared.fault.RulesFault.{RulesFault}
use Rattle.rules_reader.specs.declared.fault.RulesFault.TheVariants.{BadRulesJson, BadRulesShape, TooManyRules, BadRule, NoMemory}
use Rattle.rules_reader.specs.declared.fault.RuleFault.{RuleFault}
use Rattle.rules_reader.specs.declared.fault.LeftOut.{LeftOut}
use Rattle.rules_reader.specs.declared.kind.Kind.{Kind}
use Rattle.rules_reader.specs.declared.fault.LeftOut.TheVariants.{Sign, Name}
use Rattle.expr_tokens.specs.Excluded.{name_of}
use Rattle.rules_reader.specs.Part.{Pattern, texts}
use Rattle.rules_reader.specs.File.{IsBadJson, IsBadShape, HasTooManyRules, HasBadRule, IsLeast}
use Rattle.rules_reader.specs.Book.{RuleOf}
use Rattle.rules_reader.specs.Spelled.{IsFirstBad}

-- what a report calls what is left out
abbrev pub left_out_name : LeftOut → List ℕ
left_out_name (Sign excluded) = name_of excluded
left_out_name (Name name) = name

-- the refusal of a text: each comes exactly where its fault is the first in this order, but for want of memory
abbrev pub Refuses : List ℕ → RulesFault → Type 0
Refuses bytes BadRulesJson = IsBadJson bytes
Refuses bytes (BadRulesShape p) = IsBadShape bytes (texts p)
Refuses bytes TooManyRules = HasTooManyRules bytes
Refuses bytes (BadRule rule fault) = HasBadRule bytes (texts rule.pattern) rule.kind fault
Refuses bytes NoMemory = ⊤

-- what a refusal says: it names patterns by the texts of their parts
pub data Reason : Type 0 where
  no_json : Reason
  bad_shape : (at : Pattern) → Reason
  too_many_rules : Reason
  bad_rule : (at : Pattern) (kind : Kind) (fault : RuleFault) → Reason
  no_memory : Reason

-- what a refusal with this fault says
abbrev pub reason : RulesFault → Reason
reason BadRulesJson = no_json
reason (BadRulesShape p) = bad_shape (texts p)
reason TooManyRules = too_many_rules
reason (BadRule rule fault) = bad_rule (texts rule.pattern) rule.kind fault
reason NoMemory = no_memory

-- a refusal for the least of some faulty patterns, or for want of memory
abbrev pub Names : List Pattern → RulesFault → Type 0
Names faulty BadRulesJson = ⊥
Names faulty (BadRulesShape p) = IsLeast (texts p) faulty
Names faulty TooManyRules = ⊥
Names faulty (BadRule rule fault) = ⊥
Names faulty NoMemory = ⊤

-- a refusal for the first of some rules below `at` that is invalid, or for want of memory
abbrev pub Blames : Pattern → List (RuleOf (List ℕ)) → RulesFault → Type 0
Blames at rules BadRulesJson = ⊥
Blames at rules (BadRulesShape p) = ⊥
Blames at rules TooManyRules = ⊥
Blames at rules (BadRule rule fault) = IsFirstBad at rules (texts rule.pattern) rule.kind fault
Blames at rules NoMemory = ⊤
