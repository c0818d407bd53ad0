use Rattle.std.proofs.Common.{length, arith, ap, ◌∙◌}
use Rattle.json_tree.proofs.Limits.{text_length}
use Rattle.evaluator.proofs.identity.Identity.copy.Goals as goal

pub new-requires-clause-uid : goal.new-requires-clause-uid
new-requires-clause-uid c = omega (arith, text_length _ c.law.ensures.uid, ap length (c.in_ok-uid.ensures.ok ∙ c.uid.ensures))

pub new-requires-clause-provider : goal.new-requires-clause-provider
new-requires-clause-provider c = omega (arith, text_length _ c.law.ensures.provider, ap length (c.in_ok-provider.ensures.ok ∙ c.provider.ensures))
