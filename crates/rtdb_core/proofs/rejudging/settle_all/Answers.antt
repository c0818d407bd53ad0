use Rattle.std.proofs.Common.{◌∙◌, rules, MutBor}
use Rattle.rtdb_core.specs.Working.Fates.{settled_all}
use Rattle.rtdb_core.specs.declared.fates.Docket.{Docket}
use Rattle.rtdb_core.proofs.Seating.{retained_in_turn}
use Rattle.rtdb_core.proofs.rejudging.settle_all.Goals as goal

pub returns-clause-made : goal.returns-clause-made
returns-clause-made c =
    retained_in_turn _ (λ (f : record { 0 : MutBor Docket }). f.0.now.place) (λ (f : record { 0 : MutBor Docket }). f.0.now.decisions.now) (λ f k v b w g t. search rules) _ _ _ c.retain.ensures.filtered
    ∙ (λ i. settled_all (c.new-docket.ensures.place i) (c.new-docket.ensures.decisions i) c.args.sessions.now.entries)
