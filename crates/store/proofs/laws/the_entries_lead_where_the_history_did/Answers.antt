use Rattle.store.proofs.Histories.{history_leads}
use Rattle.store.proofs.laws.the_entries_lead_where_the_history_did.Goals as goal

pub returns : goal.returns
returns c = history_leads
