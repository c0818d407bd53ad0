-- What a rules file is answered, from what its passes found.
use Rattle.std.proofs.Common.{◌≡◌, ℕ, ◌≤◌, List, [], length, Some, refl}
use Rattle.serde_json.specs.Data.{Data}
use Rattle.rules_reader.specs.declared.limits.TheConstants.{MAX_RULES}
use Rattle.rules_reader.specs.declared.fault.RulesFault.{RulesFault}
use Rattle.rules_reader.specs.declared.fault.RulesFault.TheVariants.{BadRulesJson, BadRulesShape, TooManyRules, BadRule, NoMemory}
use Rattle.rules_reader.specs.Book.{rules}
use Rattle.rules_reader.specs.File.{ReadsAs, top, faulty, texts_of, IsShaped}
use Rattle.rules_reader.specs.Refusal.{Refuses, Blames}

module _ (bytes : List ℕ) (json under_rules : Data) where
  pub shaped : ReadsAs bytes (Some json) → top json ≡ Some under_rules → faulty [] under_rules ≡ [] → IsShaped bytes (texts_of under_rules)
  shaped reads is_top sound = record { json = json; reads = reads; under_rules = under_rules; is_top = is_top; sound = sound; stated = refl }

  pub blamed : IsShaped bytes (texts_of under_rules) → length (rules (texts_of under_rules)) ≤ MAX_RULES → (fault : RulesFault) → Blames [] (rules (texts_of under_rules)) fault → Refuses bytes fault
  blamed s few BadRulesJson b = absurd b
  blamed s few (BadRulesShape p) b = absurd b
  blamed s few TooManyRules b = absurd b
  blamed s few (BadRule rule why) b = record { texts = texts_of under_rules; shaped = s; few = few; first = b }
  blamed s few NoMemory b = tt
