use Rattle.std.proofs.Common.{◌≡◌, Some, take}
use Rattle.serde_json.specs.View.{items_view}
use Rattle.entries.specs.Items.{each}
use Rattle.entries.specs.Identity.{claim_in}
use Rattle.entries.proofs.identity.read_claims.Given as goal

abbrev pub invariant-loop-item : goal.invariant-loop-item
invariant-loop-item l = each claim_in (items_view (take l.item-index l.items.items)) ≡ Some l.claims
