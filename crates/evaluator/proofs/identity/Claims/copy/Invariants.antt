use Rattle.std.proofs.Common.{◌≡◌, take, map}
use Rattle.evaluator.specs.Identity.{claimed}
use Rattle.evaluator.proofs.identity.Claims.copy.Given as goal

-- the claims so far were copied
abbrev pub invariant-loop-claim : goal.invariant-loop-claim
invariant-loop-claim l = l.claims ≡ map claimed (take l.claim-index l.claim-items)
