use Rattle.judge.proofs.laws.only_rules_above_grant.Goals as goal

pub returns : goal.returns
returns c q r kind path same g = record { place = g.place; above = g.above; holds = same g.place g.above g.holds }
