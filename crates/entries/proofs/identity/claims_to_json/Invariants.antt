use Rattle.std.proofs.Common.{take}
use Rattle.entries.specs.Identity.{claim_in}
use Rattle.entries.proofs.Lists.{AreRead}
use Rattle.entries.proofs.identity.claims_to_json.Given as goal

abbrev pub invariant-loop-i : goal.invariant-loop-i
invariant-loop-i l = AreRead claim_in 1 l.items.items (take l.i l.claims)
