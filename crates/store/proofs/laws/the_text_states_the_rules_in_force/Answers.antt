use Rattle.store.proofs.RulesTexts.{text_states}
use Rattle.store.proofs.laws.the_text_states_the_rules_in_force.Goals as goal

pub returns : goal.returns
returns c = text_states
