use Rattle.std.proofs.Common.{◌≤◌, sym, ◌∙◌, ap, subst, arith}
use Rattle.serde_json.proofs.Views.{view-Array}
use Rattle.serde_json.specs.Data.{depth as nesting, Data}
use Rattle.serde_json.specs.View.{items_view}
use Rattle.entries.specs.Identity.{claim_in, claims_in}
use Rattle.entries.proofs.Lists.{one_written, all_written, array_within}
use Rattle.entries.proofs.Identities.{seen_claim, claim_is_there, claim_seen}
use Rattle.entries.proofs.identity.claims_to_json.Goals as goal

pub returns-clause-value : goal.returns-clause-value
returns-clause-value c = ap claims_in (view-Array c.loop-i.items) ∙ all_written claim_in 1 c.loop-i.items.items c.args.claims.now c.loop-i.i c.loop-i.invariant (let past = c.loop-i-test.false in let len = c.len-i-end.ensures in omega arith)

pub returns-clause-depth : goal.returns-clause-depth
returns-clause-depth c = subst (λ (d : Data). nesting d ≤ 2) (sym (view-Array c.loop-i.items)) (array_within (items_view c.loop-i.items.items) 1 c.loop-i.invariant.within)

pub loop-i-preserved : goal.loop-i-preserved
loop-i-preserved c =
    let len = c.len-i-end.ensures in
    one_written claim_in 1 c.loop-i.items.items _ c.args.claims.now c.loop-i.i c.in_ok-claim_to_json.field-0 (seen_claim c.unwrap-claim.result) c.loop-i.invariant (omega arith) (claim_seen c.args.claims.now c.loop-i.i c.claim_at.result c.unwrap-claim.result c.claim_at.ensures c.unwrap-claim.ensures) c.in_ok-claim_to_json.ensures.value c.in_ok-claim_to_json.ensures.depth c.in_ok-push.ensures.items

pub unwrap-claim-requires : goal.unwrap-claim-requires
unwrap-claim-requires c = let len = c.len-i-end.ensures in claim_is_there c.args.claims.now c.loop-i.i c.claim_at.result c.claim_at.ensures (omega arith)
