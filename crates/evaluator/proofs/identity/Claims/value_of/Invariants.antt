use Rattle.std.proofs.Common.{◌≡◌, drop, map}
use Rattle.evaluator.specs.Identity.{claimed, claim_named}
use Rattle.evaluator.proofs.identity.Claims.value_of.Given as goal

-- the claims before have other names
abbrev pub invariant-loop-claim : goal.invariant-loop-claim
invariant-loop-claim l = claim_named l.name (map claimed (drop l.claim-index l.claim-items)) ≡ claim_named l.name l.self
